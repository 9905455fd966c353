-- The parts of a string by its role.
use Rattle.std.proofs.Common.{◌≡◌, ℕ, Bool, true, false, ◌&&◌, ◌||◌, List, [], ◌∷◌, map, Option, refl, sym, ap, ◌∙◌}
use Rattle.std.specs.Prelude.{if◌then◌else◌}
use Rattle.sieve_check.specs.Context.{Context, takes_references}
use Rattle.sieve_check.specs.Cut.{parts_in}
use Rattle.sieve_table.specs.Role.{names_variable}
use Rattle.sieve_table.specs.declared.row.Role.{Role}
use Rattle.sieve_table.specs.declared.row.Role.TheVariants.{NameToSet, NamesToRead}
use Rattle.sieve_variables.specs.Part.{Part, grouped, literal, scoped_part, variable_part}
use Rattle.sieve_variables.specs.Reference.{CutsReferences, ReferencePiece}
use Rattle.sieve_variables.specs.Scan.{parts_of_text, pieces_of}
use Rattle.sieve_variables.specs.Variable.{scoped, variable_named}
use Rattle.sieve_table.proofs.Telling.{only_in_role}
use Rattle.sieve_variables.proofs.Cut.{cuts_from}

first_false : (a b : Bool) → (a && b) ≡ false → b ≡ true → a ≡ false
first_false false b both second = refl
first_false true b both second = sym second ∙ both

either_false : (a b c : Bool) → (a && c) ≡ false → (b && c) ≡ false → ((a || b) && c) ≡ false
either_false true b c first second = first
either_false false b c first second = second

module _ (context : Context) (role : Option Role) (octets : List ℕ) where
  abbrev its_variable : List Part
  its_variable = variable_part (scoped context.scope.declared (variable_named octets)) ∷ []

  abbrev its_parts : List Part
  its_parts = map (scoped_part context.scope.declared) (parts_of_text octets)

  other_role : names_variable role ≡ false → parts_in context role octets ≡ (if takes_references context.required role then its_parts else literal octets ∷ [])
  other_role other = ap (λ b. if b then its_variable else if takes_references context.required role then its_parts else literal octets ∷ []) other

  expanded : takes_references context.required role ≡ true → parts_in context role octets ≡ its_parts
  expanded takes =
      other_role (first_false (names_variable role) (takes_references context.required role)
      (either_false _ _ (takes_references context.required role) (only_in_role NameToSet (takes_references context.required) role refl) (only_in_role NamesToRead (takes_references context.required) role refl)) takes)
      ∙ ap (λ b. if b then its_parts else literal octets ∷ []) takes

  pub expanded_cut : takes_references context.required role ≡ true → (pieces : List ReferencePiece) × CutsReferences pieces octets × (parts_in context role octets ≡ map (scoped_part context.scope.declared) (grouped pieces))
  expanded_cut takes = (pieces_of octets, cuts_from 0 octets, expanded takes)

  pub named : names_variable role ≡ true → parts_in context role octets ≡ variable_part (scoped context.scope.declared (variable_named octets)) ∷ []
  named names = ap (λ b. if b then its_variable else if takes_references context.required role then its_parts else literal octets ∷ []) names

  pub plain : names_variable role ≡ false → takes_references context.required role ≡ false → parts_in context role octets ≡ literal octets ∷ []
  plain other takes = other_role other ∙ ap (λ b. if b then its_parts else literal octets ∷ []) takes
