-- A script without a breach has none either where capabilities that aren't known may be required.
-- It is the same script then.
use Rattle.std.proofs.Common.{◌≡◌, ℕ, Bool, true, false, not, ◌&&◌, ◌||◌, List, [], ◌∷◌, ◌++◌, map, Option, None, Some, Result, Ok, Err, is_none, slice_get, refl, sym, ap, ◌∙◌}
use Rattle.std.specs.List.{list_any}
use Rattle.sieve_profile.proofs.Each.{of_each}
use Rattle.sieve_profile.proofs.Sets as sets
use Rattle.sieve_profile.specs.Extension.{same_extension}
use Rattle.sieve_profile.specs.Profile.{Profile, has, with_extension}
use Rattle.sieve_profile.specs.declared.extension.Extension.{Extension}
use Rattle.sieve_profile.specs.declared.extension.Extension.TheVariants.{Unused}
use Rattle.sieve_syntax.specs.Syntax.{syntax_of}
use Rattle.sieve_syntax.specs.Tree.{Argument, Block, Command, Tests}
use Rattle.sieve_check.specs.Breach.{Breach, breaches_at, breaches_by, breaches_in, breaches_of, breaks, command_breaks, first_breach, kind_breaks, row_breaks, said_breaks, test_breaks, text_breaks, use_lacks}
use Rattle.sieve_check.specs.Collating.{lacks_substrings}
use Rattle.sieve_check.specs.Context.{Context, continues_if, is_require, under}
use Rattle.sieve_check.specs.Element.{Element, elements_of, the_command, the_number, the_test, the_text}
use Rattle.sieve_check.specs.Judgement.{judgement_by, judgement_from, judgement_of, sound}
use Rattle.sieve_check.specs.Said.{said}
use Rattle.sieve_check.specs.Use.{has_block}
use Rattle.sieve_script.specs.Shape.{known_shapes}
use Rattle.sieve_check.specs.Script.{script_of}
use Rattle.sieve_check.specs.Cut.{cut_row}
use Rattle.sieve_script.specs.Script.{Commands}
use Rattle.sieve_table.specs.Capability.{capabilities, is_name_of}
use Rattle.sieve_table.specs.Known.{extension_of, is_asked_for, is_known, is_shown_by_no_word, known_command, known_test, may_be_required, names_known}
use Rattle.sieve_table.specs.Role.{has_role}
use Rattle.sieve_table.specs.Rule.{all_rules}
use Rattle.sieve_table.specs.Table.{Row, command_row, test_row}
use Rattle.sieve_table.specs.contracts.capability.Capability as every_capability
use Rattle.sieve_table.specs.declared.capability.Capability.{Capability}
use Rattle.sieve_table.specs.declared.row.Role.{Role}
use Rattle.sieve_table.specs.declared.row.Role.TheVariants.{Capabilities, ComparatorName}
use Rattle.sieve_table.specs.declared.rule.Rule.{Rule}
use Rattle.sieve_table.specs.declared.rule.Rule.TheVariants.{RequirePlace, UnknownCapability, UnknownCommand, NotRequired, ElsePlace, BadTag, BadArguments, UnknownComparator, BadVariableName, GlobalAfterSet, BadNamespace, MatchIndex, NumberTooLarge, BadEnvelopePart, NotAddressHeader, TooManyVariables, BadCharacter, BadRelation, UnfitComparator, BadDatePart}
use Rattle.sieve_table.specs.declared.table.CommandKind.{CommandKind}
use Rattle.sieve_table.specs.declared.table.TestKind.{TestKind}
use Rattle.sieve_check.proofs.Reprofiled.{collation_again, command_again, elements_again, reprofiled, row_cut, script_again, shapes_again, test_again, use_lacks_again}
use Rattle.sieve_check.proofs.Searches.{cons_in}
use Rattle.sieve_check.proofs.Unbroken.{keeps, no_breach, none_first, nothing_before}

or_false : (b : Bool) → (b || false) ≡ b
or_false true = refl
or_false false = refl

-- no capability is asked for by `unused`
abbrev is_unused : Option Extension → Bool
is_unused None = false
is_unused (Some name) = same_extension Unused name

never_unused : (c : Capability) → not (is_unused (extension_of c)) ≡ true
never_unused c = of_each every_capability.enum tt (λ c. not (is_unused (extension_of c))) refl c

asked_alike : (p : Profile) (name : Option Extension) → not (is_unused name) ≡ true → is_asked_for (with_extension p Unused) name ≡ is_asked_for p name
asked_alike p None other = refl
asked_alike p (Some name) other = sets.with_has_more p Unused name ∙ ap (λ b. has p name || b) (is_false (same_extension Unused name) other) ∙ or_false (has p name)
  where
    is_false : (b : Bool) → not b ≡ true → b ≡ false
    is_false true e = sym e
    is_false false e = refl

-- the same capabilities are known with it
known_alike : (p : Profile) → is_known (with_extension p Unused) ≡ is_known p
known_alike p = λ i c. asked_alike p (extension_of c) (never_unused c) i

-- WITHOUT A BREACH

-- a name that may be required may be required with it too
refused_less : (p : Profile) (in_role leads : Bool) (name : List ℕ) → (in_role && (leads && not (may_be_required p name))) ≡ false → (in_role && (leads && not (may_be_required (with_extension p Unused) name))) ≡ false
refused_less p in_role leads name fine =
    ap (λ known. in_role && (leads && not (list_any (λ c. is_name_of name c && known c) capabilities || (has (with_extension p Unused) Unused && not (is_shown_by_no_word name))))) (known_alike p)
    ∙ by_all in_role leads (names_known p name) (has p Unused) (has (with_extension p Unused) Unused) (is_shown_by_no_word name) refl fine
  where
    by_all : (r l k u w n : Bool) → w ≡ (u || true) → (r && (l && not (k || (u && not n)))) ≡ false → (r && (l && not (k || (w && not n)))) ≡ false
    by_all false l k u w n e fine = refl
    by_all true false k u w n e fine = refl
    by_all true true true u w n e fine = refl
    by_all true true false u w true e fine = ap (λ b. not (b && false)) e ∙ by_shown u fine
      where
        by_shown : (u : Bool) → not (u && false) ≡ false → not ((u || true) && false) ≡ false
        by_shown true f = f
        by_shown false f = f
    by_all true true false u w false e fine = ap (λ b. not (b && true)) e ∙ by_named u
      where
        by_named : (u : Bool) → not ((u || true) && true) ≡ false
        by_named true = refl
        by_named false = refl

module _ (p : Profile) where
  abbrev lenient : Profile
  lenient = with_extension p Unused

  command_alike : (c : Context) (k : Option CommandKind) (args : List Argument) (ts : Tests) (ending : Block) → command_breaks (under lenient c) k args ts ending ≡ command_breaks (under p c) k args ts ending
  command_alike c None args ts ending = refl
  command_alike c (Some kind) args ts ending =
      ap (λ shapes. kind_breaks (is_require kind && not c.leads) (continues_if kind && not c.follows_if) (use_lacks lenient c.required (command_row kind) args) (command_row kind) shapes ts (has_block ending)) (shapes_again lenient p (known_alike p) (command_row kind).tags args)
      ∙ ap (λ lacks. kind_breaks (is_require kind && not c.leads) (continues_if kind && not c.follows_if) lacks (command_row kind) (known_shapes p (command_row kind).tags args) ts (has_block ending)) (use_lacks_again lenient p (known_alike p) c.required (command_row kind) args)

  test_alike : (c : Context) (k : Option TestKind) (args : List Argument) (ts : Tests) → test_breaks (under lenient c) k args ts ≡ test_breaks (under p c) k args ts
  test_alike c None args ts = refl
  test_alike c (Some kind) args ts =
      ap (λ shapes. row_breaks (use_lacks lenient c.required (test_row kind) args) (test_row kind) shapes ts false) (shapes_again lenient p (known_alike p) (test_row kind).tags args)
      ∙ ap (λ lacks. row_breaks lacks (test_row kind) (known_shapes p (test_row kind).tags args) ts false) (use_lacks_again lenient p (known_alike p) c.required (test_row kind) args)

  -- a string that breaks no rule breaks none with it
  text_passes : (c : Context) (role : Option Role) (octets : List ℕ) → ((rule : Rule) → text_breaks (under p c) role octets rule ≡ false) → (rule : Rule) → text_breaks (under lenient c) role octets rule ≡ false
  text_passes c role octets fine RequirePlace = refl
  text_passes c role octets fine UnknownCapability = refused_less p (has_role Capabilities role) c.leads octets (fine UnknownCapability)
  text_passes c role octets fine UnknownCommand = refl
  text_passes c role octets fine NotRequired = refl
  text_passes c role octets fine ElsePlace = refl
  text_passes c role octets fine BadTag = refl
  text_passes c role octets fine BadArguments = refl
  text_passes c role octets fine UnknownComparator = ap (λ known. has_role ComparatorName role && is_none known) (collation_again lenient p (known_alike p) octets) ∙ fine UnknownComparator
  text_passes c role octets fine BadVariableName = fine BadVariableName
  text_passes c role octets fine GlobalAfterSet = fine GlobalAfterSet
  text_passes c role octets fine BadNamespace = fine BadNamespace
  text_passes c role octets fine MatchIndex = fine MatchIndex
  text_passes c role octets fine NumberTooLarge = refl
  text_passes c role octets fine BadEnvelopePart = fine BadEnvelopePart
  text_passes c role octets fine NotAddressHeader = fine NotAddressHeader
  text_passes c role octets fine TooManyVariables = fine TooManyVariables
  text_passes c role octets fine BadCharacter = refl
  text_passes c role octets fine BadRelation = fine BadRelation
  text_passes c role octets fine UnfitComparator = ap (λ known. has_role ComparatorName role && (c.finds_parts && lacks_substrings known)) (collation_again lenient p (known_alike p) octets) ∙ fine UnfitComparator
  text_passes c role octets fine BadDatePart = fine BadDatePart

  said_passes : (c : Context) (role : Option Role) (o : Option (List ℕ)) → ((rule : Rule) → said_breaks (under p c) role o rule ≡ false) → (rule : Rule) → said_breaks (under lenient c) role o rule ≡ false
  said_passes c role None fine rule = fine rule
  said_passes c role (Some octets) fine rule = text_passes c role octets fine rule

  -- an element that breaks no rule breaks none with it
  passes_again : (e : Element) → breaches_at (reprofiled p e) ≡ [] → breaches_at (reprofiled lenient e) ≡ []
  unfolding breaches_at
  passes_again (the_command c name line args ts ending) none =
      ap (λ k. breaches_by (command_breaks (under lenient c) k args ts ending) line all_rules) (command_again lenient p (known_alike p) name)
      ∙ ap (λ broken. breaches_by broken line all_rules) (command_alike c (known_command p name) args ts ending)
      ∙ none
  passes_again (the_test c name line args ts) none =
      ap (λ k. breaches_by (test_breaks (under lenient c) k args ts) line all_rules) (test_again lenient p (known_alike p) name)
      ∙ ap (λ broken. breaches_by broken line all_rules) (test_alike c (known_test p name) args ts)
      ∙ none
  passes_again (the_text c role text) none =
      no_breach (breaks (reprofiled lenient (the_text c role text))) text.line all_rules (said_passes c role (said c.required role text.string) (keeps (reprofiled p (the_text c role text)) none))
  passes_again (the_number value line) none = none

  all_pass : (es : List Element) → breaches_in (map (reprofiled p) es) ≡ [] → breaches_in (map (reprofiled lenient) es) ≡ []
  all_pass [] none = none
  all_pass (e ∷ es) none =
      let parts = nothing_before (reprofiled p e) (map (reprofiled p) es) none in
      cons_in (reprofiled lenient e) (map (reprofiled lenient) es) ∙ ap (λ l. l ++ breaches_in (map (reprofiled lenient) es)) (passes_again e parts.0) ∙ all_pass es parts.1

  pub still_none : (tree : List Command) → breaches_of p tree ≡ [] → breaches_of lenient tree ≡ []
  still_none tree none =
      ap breaches_in (elements_again lenient p (known_alike p) tree)
      ∙ all_pass (elements_of p tree) (ap breaches_in (sym (elements_again p p refl tree)) ∙ none)

  pub same_script : (tree : List Command) → script_of lenient tree ≡ script_of p tree
  same_script tree = script_again lenient p (known_alike p) tree

  pub same_strings : (context : Context) (row : Row) (args : List Argument) → cut_row (under lenient context) row args ≡ cut_row (under p context) row args
  same_strings context row args = row_cut lenient p (known_alike p) context row args

  by_breach : (tree : List Command) (first : Option Breach) (t : Commands) → first_breach p tree ≡ first → judgement_by first (script_of p tree) ≡ sound t → judgement_by (first_breach lenient tree) (script_of lenient tree) ≡ sound t
  by_breach tree None t is so =
      ap (λ bs. judgement_by (slice_get bs 0) (script_of lenient tree)) (still_none tree (none_first (breaches_of p tree) is))
      ∙ ap (λ script. sound script) (same_script tree)
      ∙ so
  by_breach tree (Some breach) t is so = absurd (not_sound so)
    where
      not_sound : judgement_by (Some breach) (script_of p tree) ≡ sound t → ⊥
      not_sound e = cc

  by_syntax : (read : Result (List Command) ℕ) (t : Commands) → judgement_from p read ≡ sound t → judgement_from lenient read ≡ sound t
  by_syntax (Ok tree) t so = by_breach tree (first_breach p tree) t refl so
  by_syntax (Err line) t so = so

  -- a text that is sound is so with it too, and the same script
  pub same_judgement : (text : List ℕ) (t : Commands) → judgement_of p text ≡ sound t → judgement_of lenient text ≡ sound t
  unfolding judgement_of
  same_judgement text t so = by_syntax (syntax_of text) t so
