-- The models of the program's parts.
use Rattle.std.specs.Prelude.{ℕ, List, [], ◌∷◌, ◌++◌, if◌then◌else◌}
use Rattle.sieve_variables.specs.Part.{Part, literal, local_part, global_part, variable_part, match_part, part_of_words}
use Rattle.sieve_variables.specs.Reference.{reference}
use Rattle.sieve_variables.specs.Scan.{is_foreign, words_of}
use Rattle.sieve_variables.specs.Variable.{Variable, local_variable}
use Rattle.sieve_variables.specs.declared.part.PartKind as kinds
use Rattle.sieve_variables.specs.declared.part.PartKind.TheVariants as kind
use Rattle.sieve_variables.specs.declared.part.PartRef as part_refs
use Rattle.sieve_variables.specs.declared.part.PartRef.TheVariants as part_ref
use Rattle.sieve_variables.specs.view.Variable.{variable_ref_as}

-- The part of a kind and octets. They don't count for a match variable.
abbrev pub part_of : kinds.PartKind → List ℕ → Part
part_of kind.Literal octets = literal octets
part_of kind.Local name = local_part name
part_of kind.Global name = global_part name
part_of (kind.Match index) octets = match_part index

abbrev pub part_ref_as : part_refs.PartRef → Part
part_ref_as (part_ref.Literal octets) = literal octets.now
part_ref_as (part_ref.Variable variable) = variable_part (variable_ref_as variable)
part_ref_as (part_ref.Match index) = match_part index

-- the octets of a part that stands for itself, and no octets for any other
abbrev pub plain_octets : Part → List ℕ
plain_octets (literal octets) = octets
plain_octets (variable_part variable) = []
plain_octets (match_part index) = []

-- The variable whose value a part is. For any other part it is the one without a name, which
-- no script has.
abbrev pub variable_in : Part → Variable
variable_in (literal octets) = local_variable []
variable_in (variable_part variable) = variable
variable_in (match_part index) = local_variable []

-- octets as a literal, if there are any
abbrev pub literal_part : List ℕ → List Part
literal_part [] = []
literal_part (c ∷ octets) = literal (c ∷ octets) ∷ []

-- The parts that a reference adds, by the octets inside it. `octets` are those before it that
-- aren't in the parts yet. `written` are these and the reference.
abbrev pub added : (inside octets written : List ℕ) → List Part
added inside octets written =
    if is_foreign (reference (words_of inside)) then literal_part written else literal_part octets ++ part_of_words (words_of inside) ∷ []
