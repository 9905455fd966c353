-- Words in which the program finds no fault name one of its own subcommands.
use Rattle.std.proofs.Common.{◌≡◌, ◌∙◌, ℕ, ◌&&◌, ◌||◌, Bool, true, false, not, cond, List, [], ◌∷◌, Option, Some, None, is_some, refl, sym, ap, ap₂, subst, codes, option_map}
use Rattle.std.proofs.lemmas.Bool.{false≢true}
use Rattle.std.specs.List.{fold, list_any}
use Rattle.std.proofs.lemmas.Slice.Eq.{bytes_eq-Decides}
use Rattle.std.specs.Str.{bytes_eq}
use Rattle.clap.specs.Words.{Kinds, Rule, Shape, Text}
use Rattle.clap.specs.Words.{App, Row, fault_of, subcommand_of}
use Rattle.clap.specs.Kinds.{check_kinds, or_else}
use Rattle.clap.specs.Simple.{argument_words, built, entered, label_of, names_of, rows_at}
use Rattle.clap.specs.Faults.{built_fault, check_fault, defaults_fault, entered_fault, settle_fault}
use Rattle.clap.specs.Facts.{explicit_source}
use Rattle.clap.specs.Takes.{is_given}
use Rattle.command_line.specs.CommandLine.{dump_shape, letter_rule, name_rule, names_rule, path_rule, session_shape, test_shape, job_named, job_of, the_app, top_app}
use Rattle.clap.specs.Lexer.{long_of}
use Rattle.clap.specs.declared.error.kind.ErrorKind.{ErrorKind}
use Rattle.clap.specs.Faults.{other_fault, step_fault, turn_fault, walk_fault, word_fault}
use Rattle.clap.specs.Walk.{Held, Names, answers_to, nothing_held, finished, settled, stop_after, walk, walk_from, Outcome, Step, Waiting, Walk, after_flag, after_step, long_or_other, plain_word, short_or_plain, subcommand_or_other, to_positional, walked, walked_from, word_met}
use Rattle.clap.specs.Walk.{done, idle, next, option, plain, positional, refused, subcommand, trailing, value, waits}

-- where the first of two lists of kinds that has any is empty, each of the two is empty
or_else_first : (xs ys : Kinds) → or_else xs ys ≡ [] → xs ≡ []
or_else_first [] ys e = refl
or_else_first (x ∷ xs) ys e = e

or_else_second : (xs ys : Kinds) → or_else xs ys ≡ [] → ys ≡ []
or_else_second [] ys e = e
or_else_second (x ∷ xs) ys e = absurd (cc)

-- the step is not to the subcommand `help`
abbrev IsNotHelp : Step → Type 0
IsNotHelp (next waiting) = Unit {0}
IsNotHelp (trailing position) = Unit {0}
IsNotHelp (subcommand name) = bytes_eq name (codes "help") ≡ false
IsNotHelp value = Unit {0}

-- the walk has not stopped at `help`
abbrev pub StopsElsewhere : Option (Text × List Text) → Type 0
StopsElsewhere None = Unit {0}
StopsElsewhere (Some p) = bytes_eq p.0 (codes "help") ≡ false

plain_is : (c : List Rule) (waiting : Waiting) (word : Text) (h : Held) → IsNotHelp (plain_word c waiting word h).1
plain_is c idle word h = tt
plain_is c (option id) word h = tt
plain_is c positional word h = tt

flag_is : (c : List Rule) (waiting : Waiting) (word : Text) (h : Held) (outcome : Outcome) → IsNotHelp (after_flag c waiting word h outcome).1
flag_is c waiting word h done = tt
flag_is c waiting word h (waits id) = tt
flag_is c waiting word h plain = plain_is c waiting word h
flag_is c waiting word h refused = plain_is c waiting word h

short_is : (c : List Rule) (waiting : Waiting) (word : Text) (flags : Option Text) (h : Held) → IsNotHelp (short_or_plain c waiting word flags h).1
short_is c waiting word (Some flags) h = flag_is c waiting word _ _
short_is c waiting word None h = plain_is c waiting word h

long_is : (c : List Rule) (waiting : Waiting) (word : Text) (p : Option (Text × Option Text)) (h : Held) → IsNotHelp (long_or_other c waiting word p h).1
long_is c waiting word (Some p) h = flag_is c waiting word _ _
long_is c waiting word None h = short_is c waiting word _ h

-- where a test would lead to a fault and there is none, the test did not hold
no_fault : (a b : Bool) (kind : ErrorKind) (kinds : Kinds) → b ≡ false → cond (a && not b) (kind ∷ kinds) [] ≡ [] → a ≡ false
no_fault true true kind kinds e none = absurd (cc)
no_fault true false kind kinds e none = absurd (cc)
no_fault false b kind kinds e none = refl

unmet_is : (b : Bool) (c : List Rule) (waiting : Waiting) (position : ℕ) (word : Text) (h : Held)
    → IsNotHelp (cond b (h, trailing position) (long_or_other c waiting word (long_of word) h)).1
unmet_is true c waiting position word h = tt
unmet_is false c waiting position word h = long_is c waiting word (long_of word) h

other_is : (s : Shape) (met : Option Text) (waiting : Waiting) (position : ℕ) (word : Text) (h : Held) → s.disable_help_subcommand ≡ false
    → other_fault s met word h ≡ [] → IsNotHelp (subcommand_or_other s.rules met waiting position word h).1
other_is s (Some name) waiting position word h e none = no_fault (bytes_eq name (codes "help")) s.disable_help_subcommand _ _ e none
other_is s None waiting position word h e none = unmet_is (bytes_eq word (codes "--")) s.rules waiting position word h

met_is : (s : Shape) (names : Names) (is_trailing : Bool) (waiting : Waiting) (position : ℕ) (word : Text) (h : Held)
    → s.disable_help_subcommand ≡ false → word_fault s names is_trailing waiting word h ≡ []
    → IsNotHelp (word_met s.rules names is_trailing waiting position word h).1
met_is s names true waiting position word h e none = tt
met_is s names false waiting position word h e none = other_is s _ waiting position word h e none

positional_stops : (c : List Rule) (a : Option Rule) (word : Text) (w : Walk) (h : Held) → StopsElsewhere w.stopped
    → StopsElsewhere (to_positional c a word w h).stopped
positional_stops c None word w h start = start
positional_stops c (Some a) word w h start = tt

step_stops : (c : List Rule) (word : Text) (w : Walk) (h : Held) (step : Step) → StopsElsewhere w.stopped → IsNotHelp step
    → StopsElsewhere (after_step c word w h step).stopped
step_stops c word w h (next waiting) start is = start
step_stops c word w h (trailing position) start is = start
step_stops c word w h (subcommand name) start is = is
step_stops c word w h value start is = positional_stops c _ word w h start

turn_stops : (s : Shape) (names : Names) (stopped : Option (Text × List Text)) (w : Walk) (word : Text) → s.disable_help_subcommand ≡ false
    → StopsElsewhere stopped → StopsElsewhere w.stopped
    → cond (is_some stopped) [] (or_else (word_fault s names w.is_trailing w.waiting word w.held)
    (step_fault s w.position (word_met s.rules names w.is_trailing w.waiting w.position word w.held).0
    (word_met s.rules names w.is_trailing w.waiting w.position word w.held).1)) ≡ []
    → StopsElsewhere (walked_from s.rules names stopped w word).stopped
turn_stops s names (Some p) w word e before start none = before
turn_stops s names None w word e before start none =
    step_stops s.rules word w _ _ start
    (met_is s names w.is_trailing w.waiting w.position word w.held e (or_else_first _ _ none))

-- a walk with no fault does not stop at `help`
pub walk_stops : (s : Shape) (names : Names) (w : Walk) (words : List Text) → s.disable_help_subcommand ≡ false → StopsElsewhere w.stopped
    → walk_fault s names w words ≡ [] → StopsElsewhere (fold (walked s.rules names) w words).stopped
unfolding walk_fault walked
walk_stops s names w [] e start none = start
walk_stops s names w (word ∷ rest) e start none =
    walk_stops s names (walked s.rules names w word) rest e
    (turn_stops s names w.stopped w word e start start (or_else_first (turn_fault s names w word) _ none))
    (or_else_second (turn_fault s names w word) _ none)

-- where a subcommand is required, nothing is wrong only where one was met
required_met : (met required given argument : Bool) → required ≡ true
    → check_kinds (not met && given) (not met && required) argument ≡ [] → met ≡ true
required_met true required given argument e none = refl
required_met false true true argument e none = absurd (cc)
required_met false true false argument e none = absurd (cc)
required_met false false given argument e none = absurd (cc)

-- where the walk of a command's words stops
abbrev stop_in : App → List Text → Option (Text × List Text)
stop_in a words = stop_after a.top.rules (names_of a) words

built_stops : (a : App) (words : List Text) → a.top.disable_help_subcommand ≡ false → built_fault a nothing_held words ≡ []
    → StopsElsewhere (stop_in a words)
built_stops a words e none =
    walk_stops a.top (names_of a) (walk_from nothing_held) words e tt
    (or_else_first (walk_fault a.top (names_of a) (walk_from nothing_held) words) _ none)

built_enters : (a : App) (words : List Text) → a.top.subcommand_required ≡ true → built_fault a nothing_held words ≡ []
    → is_some (entered a (stop_in a words)) ≡ true
built_enters a words e none =
    let top = a.top in
    let held = (walk top.rules (names_of a) nothing_held words).held in
    let rows = finished top.rules held in
    let met = is_some (entered a (stop_in a words)) in
    let walked_none = or_else_second (walk_fault top (names_of a) (walk_from nothing_held) words) _ none in
    let below_none = or_else_second (entered_fault a (stop_in a words)) _ walked_none in
    let settled_none = or_else_second (settle_fault top.rules top.args_override_self held) _ below_none in
    let checked_none = or_else_second (defaults_fault (settled top.rules held).rows top.rules) (check_fault top rows met) settled_none in
    required_met met top.subcommand_required (top.arg_required_else_help && not (list_any (λ (r : Row). explicit_source r.source) rows))
    (not (top.subcommand_negates_reqs && met) && list_any (λ (a : Rule). a.required && not (is_given a.id rows)) top.rules) e checked_none

or_false : (b : Bool) → (b || false) ≡ true → b ≡ true
or_false true e = refl
or_false false e = e

-- the subcommand `help` does not answer to a name that is not `help`
not_answering : (name : Text) → bytes_eq name (codes "help") ≡ false → (bytes_eq (codes "help") name || false) ≡ true → ⊥
not_answering name other answers =
    let is_help : codes "help" ≡ name = (bytes_eq-Decides (codes "help") name).0 (or_false _ answers) in
    false≢true (sym other ∙ ap (λ n. bytes_eq n (codes "help")) (sym is_help))

-- the subcommands are named `session`, `dump` and `test`
abbrev AreNamed : Shape → Shape → Shape → Type 0
AreNamed first second third = (first.name ≡ codes "session") × (second.name ≡ codes "dump") × (third.name ≡ codes "test")

-- the subcommand that answers, with its rows of the words
abbrev one_of_four : Bool → Bool → Bool → Bool → Shape → Shape → Shape → Shape → List Text → Option (Text × List Row)
one_of_four x y z w first second third fourth rest =
    option_map (λ s. rows_at s rest) (cond x (Some first) (cond y (Some second) (cond z (Some third) (cond w (Some fourth) None))))

job_at : (name : Text) (rows : List Row) (wanted : Text) → name ≡ wanted → is_some (job_named wanted rows) ≡ true → is_some (job_named name rows) ≡ true
job_at name rows wanted is named = ap (λ n. is_some (job_named n rows)) is ∙ named

-- Of these subcommands one was met, and not the last. So another was met, and it names a job.
one_met : (x y z w : Bool) (first second third fourth : Shape) (rest : List Text) → (w ≡ true → ⊥) → AreNamed first second third
    → is_some (one_of_four x y z w first second third fourth rest) ≡ true → is_some (job_of (one_of_four x y z w first second third fourth rest)) ≡ true
one_met true y z w first second third fourth rest other named met = job_at first.name (rows_at first rest).1 (codes "session") named.0 refl
one_met false true z w first second third fourth rest other named met = job_at second.name (rows_at second rest).1 (codes "dump") named.1 refl
one_met false false true w first second third fourth rest other named met = job_at third.name (rows_at third rest).1 (codes "test") named.2 refl
one_met false false false true first second third fourth rest other named met = absurd (other refl)
one_met false false false false first second third fourth rest other named met = absurd (cc)

-- a program that has these subcommands
abbrev four : Shape → Shape → Shape → Shape → Shape → App
four top first second third fourth = record { top = top; subs = first ∷ second ∷ third ∷ fourth ∷ [] }

job_met : (first second third fourth : Shape) (top : Shape) (stop : Option (Text × List Text)) → AreNamed first second third
    → fourth.name ≡ codes "help" → fourth.aliases ≡ [] → StopsElsewhere stop → is_some (entered (four top first second third fourth) stop) ≡ true
    → is_some (job_of (entered (four top first second third fourth) stop)) ≡ true
job_met first second third fourth top None named is_fourth no_alias elsewhere met = absurd (cc)
job_met first second third fourth top (Some p) named is_fourth no_alias elsewhere met =
    one_met (answers_to p.0 (label_of first)) (answers_to p.0 (label_of second)) (answers_to p.0 (label_of third)) (answers_to p.0 (label_of fourth))
    first second third fourth p.1
    (λ answers. not_answering p.0 elsewhere (sym (ap₂ (λ (n : Text) (alias : List Text). answers_to p.0 (n, alias)) is_fourth no_alias) ∙ answers))
    named met

-- The words of a program that has these subcommands name one but the last. One must be met, and the
-- walk must stop elsewhere than at `help`.
job_in : (a : App) (first second third fourth : Shape) (stop : Option (Text × List Text)) → a.subs ≡ first ∷ second ∷ third ∷ fourth ∷ []
    → AreNamed first second third → fourth.name ≡ codes "help" → fourth.aliases ≡ [] → StopsElsewhere stop → is_some (entered a stop) ≡ true
    → is_some (job_of (entered a stop)) ≡ true
job_in a first second third fourth stop all named is_fourth no_alias elsewhere =
    let IsNamed : List Shape → Type 0 = λ subs. is_some (entered record { top = a.top; subs = subs } stop) ≡ true
    → is_some (job_of (entered record { top = a.top; subs = subs } stop)) ≡ true in
    subst IsNamed (sym all) (job_met first second third fourth a.top stop named is_fourth no_alias elsewhere)

-- where the program takes the words, they name a job
pub always_named : (words : List Text) → fault_of the_app words ≡ [] → is_some (job_of (subcommand_of the_app words)) ≡ true
unfolding the_app top_app session_shape dump_shape test_shape path_rule letter_rule name_rule names_rule
always_named words none =
    job_in (built the_app) _ _ _ _ (stop_in (built the_app) (argument_words the_app words)) refl (refl, refl, refl) refl refl
    (built_stops (built the_app) (argument_words the_app words) refl none)
    (built_enters (built the_app) (argument_words the_app words) refl none)
