-- How the lines of a report are put together from their pieces.
use Rattle.std.proofs.Common.{◌≡◌, ℕ, ◌+◌, ◌<◌, length, get_or, drop, List, [], ◌∷◌, ◌++◌, map, filter, Bool, true, false, ◌||◌, cond, refl, sym, ap, ◌∙◌, append_assoc, append-nil, Option, None, Some, codes, decimal}
use Rattle.std.proofs.lemmas.Grind.{flat_map-append}
use Rattle.std.proofs.lemmas.List.{at_drop_more}
use Rattle.std.specs.List.{flat_map, list_any}
use Rattle.devices.specs.Writers.{name_text, quoted}
use Rattle.sieve_check.specs.Judgement.{Judgement, sound, faulty, fault_of, fault_word, judgement_of}
use Rattle.sieve_check.specs.declared.judged.FaultKind.{FaultKind}
use Rattle.sieve_delivery.specs.State.{Entered, actions_in}
use Rattle.sieve_delivery.specs.declared.action.Entry.{Entry}
use Rattle.sieve_delivery.specs.view.Actions.{entered_of, entries_as}
use Rattle.sieve_delivery.specs.declared.envelope.Addresses.{Addresses}
use Rattle.sieve_delivery.specs.declared.envelope.Envelope.{Envelope}
use Rattle.script_names.specs.declared.name.ScriptName.{ScriptName}
use Rattle.sieve_delivery.specs.declared.error.RunError.{RunError}
use Rattle.sieve_profile.specs.Profile.{Profile, has}
use Rattle.sieve_profile.specs.declared.extension.Extension.{Extension}
use Rattle.sieve_profile.specs.declared.extension.Extension.TheVariants.{Lines}
use Rattle.sieve_verdict.specs.Lines.{action_line, error_line, error_lines, implicit_line, implicit_lines, origin_line, lookup_line, lookup_lines}
use Rattle.sieve_verdict.specs.Verdict.{Verdict}
use Rattle.bench.specs.Report.{addresses_line, indent, judgement_text, envelope_line, extension_text, extensions_line, indented, script_line, told_lines, total_line, traced_lines, verdict_text}
use Rattle.bench.specs.view.Lines.{action_text, error_text, implicit_text, lookup_text, told_text, verdict_texts}

-- the line of the envelope
pub envelope_pieces : (envelope : Envelope) (from to mailbox : List ℕ) → from ≡ envelope.from → to ≡ envelope.to → mailbox ≡ envelope.mailbox
    → envelope_line envelope ≡ codes "envelope " ++ (quoted from ++ (codes " " ++ (quoted to ++ (codes " mailbox " ++ (quoted mailbox ++ (codes "\n" ++ []))))))
unfolding envelope_line
envelope_pieces envelope from to mailbox f t m = rw (f, t, m) (simp append_assoc)

-- the line of the addresses that a message has of its own
pub addresses_pieces : (addresses : Addresses) (from to : List ℕ) → from ≡ addresses.from → to ≡ addresses.to
    → indented (addresses_line addresses) ≡ codes "  envelope " ++ (quoted from ++ (codes " " ++ (quoted to ++ (codes "\n" ++ []))))
unfolding addresses_line indent
addresses_pieces addresses from to f t = rw (f, t) (simp append_assoc)

-- the last line of a report, without a number of unexpected verdicts and with one
pub total_pieces : (messages errors : ℕ) → total_line messages errors None ≡ codes "total " ++ (decimal messages ++ (codes " messages " ++ (decimal errors ++ (codes " errors\n" ++ []))))
unfolding total_line
total_pieces messages errors = simp append_assoc

pub unexpected_pieces : (messages errors unexpected : ℕ)
    → total_line messages errors (Some unexpected) ≡ codes "total " ++ (decimal messages ++ (codes " messages " ++ (decimal errors ++ (codes " errors " ++ (decimal unexpected ++ (codes " unexpected\n" ++ []))))))
unfolding total_line
unexpected_pieces messages errors unexpected = simp append_assoc

-- the words of a report for a first fault, or for none
abbrev fault_text : Option (ℕ × FaultKind) → List ℕ
fault_text None = codes "ok"
fault_text (Some (line, kind)) = codes "line " ++ decimal line ++ codes " " ++ fault_word kind

judgement_is : (judgement : Judgement) → judgement_text judgement ≡ fault_text (fault_of judgement)
judgement_is (sound tree) = refl
judgement_is (faulty line kind) = refl

-- the line of a script without a fault
pub sound_line : (profile : Profile) (name : ScriptName) (text : List ℕ) (fault : Option (ℕ × FaultKind)) → fault ≡ fault_of (judgement_of profile text) → fault ≡ None → script_line profile (name, text) ≡ codes "script " ++ (name_text name ++ (codes " ok\n" ++ []))
unfolding script_line
sound_line profile name text fault f is =
    ap (λ (l : List ℕ). codes "script " ++ name_text name ++ codes " " ++ l ++ codes "\n") (judgement_is (judgement_of profile text) ∙ ap fault_text (sym f ∙ is))
    ∙ simp append_assoc

script_joined : (name fault : List ℕ) → codes "script " ++ name ++ codes " " ++ fault ++ codes "\n" ≡ codes "script " ++ (name ++ (codes " " ++ (fault ++ codes "\n")))
script_joined name fault =
    append_assoc (codes "script " ++ name ++ codes " ") fault (codes "\n")
    ∙ append_assoc (codes "script " ++ name) (codes " ") (fault ++ codes "\n")
    ∙ append_assoc (codes "script ") name (codes " " ++ (fault ++ codes "\n"))

fault_joined : (line word : List ℕ) → codes "line " ++ line ++ codes " " ++ word ++ codes "\n" ≡ codes "line " ++ (line ++ (codes " " ++ (word ++ codes "\n")))
fault_joined line word =
    append_assoc (codes "line " ++ line ++ codes " ") word (codes "\n")
    ∙ append_assoc (codes "line " ++ line) (codes " ") (word ++ codes "\n")
    ∙ append_assoc (codes "line ") line (codes " " ++ (word ++ codes "\n"))

-- the line of a script with a fault
pub faulty_line : (profile : Profile) (name : ScriptName) (text kind_word : List ℕ) (fault : Option (ℕ × FaultKind)) (line : ℕ) (kind : FaultKind) → fault ≡ fault_of (judgement_of profile text) → fault ≡ Some (line, kind) → kind_word ≡ fault_word kind
    → script_line profile (name, text) ≡ codes "script " ++ (name_text name ++ (codes " line " ++ (decimal line ++ (codes " " ++ (kind_word ++ (codes "\n" ++ []))))))
unfolding script_line
faulty_line profile name text kind_word fault line kind f is k =
    ap (λ (l : List ℕ). codes "script " ++ name_text name ++ codes " " ++ l ++ codes "\n") (judgement_is (judgement_of profile text) ∙ ap fault_text (sym f ∙ is))
    ∙ rw k (script_joined (name_text name) (fault_text (Some (line, kind))) ∙ ap (λ l. codes "script " ++ (name_text name ++ (codes " " ++ l))) (fault_joined (decimal line) (fault_word kind)))

-- Where a profile has one of some extensions, their line has the names of those that it has. Where
-- it has none, there is no such line.
pub line_of_some : (profile : Profile) (xs : List Extension) → list_any (has profile) xs ≡ true
    → extensions_line (filter (has profile) xs) ≡ codes "with" ++ (flat_map extension_text (filter (has profile) xs) ++ codes "\n")
unfolding extensions_line
line_of_some profile [] some = absurd cc
line_of_some profile (x ∷ xs) some = by (has profile x) some (line_of_some profile xs)
  where
    by : (b : Bool) → (b || list_any (has profile) xs) ≡ true
        → (list_any (has profile) xs ≡ true → extensions_line (filter (has profile) xs) ≡ codes "with" ++ (flat_map extension_text (filter (has profile) xs) ++ codes "\n"))
        → extensions_line (cond b (x ∷ filter (has profile) xs) (filter (has profile) xs)) ≡ codes "with" ++ (flat_map extension_text (cond b (x ∷ filter (has profile) xs) (filter (has profile) xs)) ++ codes "\n")
    by true here rest = append_assoc (codes "with") (flat_map extension_text (x ∷ filter (has profile) xs)) (codes "\n")
    by false here rest = rest here

pub line_of_none : (profile : Profile) (xs : List Extension) → list_any (has profile) xs ≡ false → extensions_line (filter (has profile) xs) ≡ []
unfolding extensions_line
line_of_none profile [] none = refl
line_of_none profile (x ∷ xs) none = by (has profile x) none (line_of_none profile xs)
  where
    by : (b : Bool) → (b || list_any (has profile) xs) ≡ false → (list_any (has profile) xs ≡ false → extensions_line (filter (has profile) xs) ≡ [])
        → extensions_line (cond b (x ∷ filter (has profile) xs) (filter (has profile) xs)) ≡ []
    by true here rest = absurd cc
    by false here rest = rest here

-- the names of those extensions that a profile has are the first one's, if it has that, and the
-- others'
pub names_cut : (profile : Profile) (x : Extension) (xs : List Extension)
    → flat_map extension_text (filter (has profile) (x ∷ xs)) ≡ flat_map extension_text (filter (has profile) (x ∷ [])) ++ flat_map extension_text (filter (has profile) xs)
names_cut profile x xs = by (has profile x)
  where
    by : (b : Bool) → flat_map extension_text (cond b (x ∷ filter (has profile) xs) (filter (has profile) xs)) ≡ flat_map extension_text (cond b (x ∷ []) []) ++ flat_map extension_text (filter (has profile) xs)
    by true = flat_map-append extension_text (x ∷ []) (filter (has profile) xs)
    by false = refl

pub names_at : (profile : Profile) (xs : List Extension) (i : ℕ) (d : Extension) → i < length xs
    → flat_map extension_text (filter (has profile) (drop i xs)) ≡ flat_map extension_text (filter (has profile) (get_or xs i d ∷ [])) ++ flat_map extension_text (filter (has profile) (drop (i + 1) xs))
names_at profile xs i d within =
    at_drop_more (λ (ys : List Extension). flat_map extension_text (filter (has profile) ys)) xs i d within ∙ names_cut profile (get_or xs i d) (drop (i + 1) xs)

-- the texts of what a function makes of items are the texts of the items by both functions in turn
flat_map-map : {X Y : Type 0} (f : Y → List ℕ) (g : X → Y) (xs : List X) → flat_map f (map g xs) ≡ flat_map (λ x. f (g x)) xs
flat_map-map f g [] = refl
flat_map-map f g (x ∷ xs) = ap (λ l. f (g x) ++ l) (flat_map-map f g xs)

implicit_is : (mailbox : List ℕ) (implicit : Option (List (List ℕ))) → flat_map indented (implicit_lines mailbox implicit) ≡ implicit_text mailbox implicit
implicit_is mailbox None = refl
implicit_is mailbox (Some flags) = append-nil (indented (implicit_line mailbox flags))

error_is : (error : Option RunError) → flat_map indented (error_lines error) ≡ error_text error
error_is None = refl
error_is (Some error) = append-nil (indented (error_line error))

rest_is : (mailbox : List ℕ) (verdict : Verdict) → flat_map indented (implicit_lines mailbox verdict.implicit ++ error_lines verdict.error) ≡ implicit_text mailbox verdict.implicit ++ error_text verdict.error
rest_is mailbox verdict =
    flat_map-append indented (implicit_lines mailbox verdict.implicit) (error_lines verdict.error) ∙ rw (implicit_is mailbox verdict.implicit, error_is verdict.error) refl

-- the lines of the actions, one after the other, with those of where they come from and without
untold_is : (entries : List Entered) → flat_map indented (map action_line (actions_in entries)) ≡ flat_map (told_text false) entries
untold_is [] = refl
untold_is (entry ∷ entries) = ap (λ l. action_text entry.action ++ l) (untold_is entries)

traced_is : (entries : List Entered) → flat_map indented (flat_map traced_lines entries) ≡ flat_map (told_text true) entries
traced_is [] = refl
traced_is (entry ∷ entries) =
    flat_map-append indented (traced_lines entry) (flat_map traced_lines entries)
    ∙ rw (traced_is entries) (ap (λ l. (action_text entry.action ++ l) ++ flat_map (told_text true) entries) (append-nil (indented (origin_line entry.origin))))

-- the lines that code writes of an entry, and of several
abbrev pub entry_text : (traced : Bool) → Entry → List ℕ
entry_text traced entry = told_text traced (entered_of entry)

pub entries_text : (traced : Bool) (entries : List Entry) (seen : List Entered) → entries_as entries ≡ seen → flat_map (entry_text traced) entries ≡ flat_map (told_text traced) seen
entries_text traced entries seen are = sym (flat_map-map (told_text traced) entered_of entries) ∙ ap (flat_map (told_text traced)) are

told_is : (traced : Bool) (mailbox : List ℕ) (verdict : Verdict) → flat_map indented (told_lines traced mailbox verdict) ≡ flat_map (told_text traced) verdict.entries ++ (implicit_text mailbox verdict.implicit ++ error_text verdict.error)
told_is false mailbox verdict =
    flat_map-append indented (map action_line (actions_in verdict.entries)) (implicit_lines mailbox verdict.implicit ++ error_lines verdict.error)
    ∙ rw (untold_is verdict.entries, rest_is mailbox verdict) refl
told_is true mailbox verdict =
    flat_map-append indented (flat_map traced_lines verdict.entries) (implicit_lines mailbox verdict.implicit ++ error_lines verdict.error)
    ∙ rw (traced_is verdict.entries, rest_is mailbox verdict) refl

-- the lines of a verdict in a report are those that are written in turn
pub verdict_in_turn : (profile : Profile) (mailbox : List ℕ) (verdict : Verdict) → verdict_text profile mailbox verdict ≡ verdict_texts (has profile Lines) mailbox verdict
unfolding verdict_texts
verdict_in_turn profile mailbox verdict =
    flat_map-append indented (told_lines (has profile Lines) mailbox verdict) (lookup_lines verdict)
    ∙ rw (told_is (has profile Lines) mailbox verdict, flat_map-map indented lookup_line verdict.lookups)
    (append_assoc (flat_map (told_text (has profile Lines)) verdict.entries) (implicit_text mailbox verdict.implicit ++ error_text verdict.error) (flat_map lookup_text verdict.lookups)
    ∙ ap (λ l. flat_map (told_text (has profile Lines)) verdict.entries ++ l) (append_assoc (implicit_text mailbox verdict.implicit) (error_text verdict.error) (flat_map lookup_text verdict.lookups)))
