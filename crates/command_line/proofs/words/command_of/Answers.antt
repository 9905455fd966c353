-- The answer of `clap` to the words of a command line, for the program `the_app`. It is the job
-- that the words name, or why they are refused.
use Rattle.std.proofs.Common.{◌≡◌, ◌∙◌, Bool, true, false, not, ◌&&◌, List, [], ◌∷◌, map, Option, Some, None, Ok, Err, IfOk, IfErr, IsOkUnless, is_some, refl, sym, ap, subst, inl, inr}
use Rattle.clap.specs.Words.{App, HasKind, HasMatchesOf, Row, Kinds, Text, fault_of, is_simple, is_simple_and_free, kind_of, subcommand_of, subcommand_rows_of}
use Rattle.clap.specs.declared.error.Error.{Error}
use Rattle.clap.specs.declared.parser.matches.ArgMatches.{ArgMatches}
use Rattle.clap.specs.declared.error.kind.ErrorKind.TheVariants.{OutOfMemory}
use Rattle.clap.proofs.OnLiterals.{clap_on_literals}
use Rattle.command_line.specs.CommandLine.{HasBadClock, IsFaultFor, IsRefusalFor, Lacks, SaysOf, allows, clock_said, dump_shape, is_lacking, profile_met, job_of, letter_rule, name_rule, named_job, names_rule, path_rule, said_profile, session_shape, test_shape, the_app, top_app, where_taken}
use Rattle.command_line.specs.declared.words.Job.{Job}
use Rattle.command_line.specs.declared.words.UsageFault.{UsageFault}
use Rattle.command_line.specs.declared.words.UsageFault.TheVariants.{Usage, UnknownName, NeedsMailbox, NeedsDate, BadClock, NoMemory}
use Rattle.std.specs.declared.result.Result.{Result}
use Rattle.date_text.specs.Clock.{Clock}
use Rattle.sieve_profile.specs.Profile.{Profile}
use Rattle.sieve_profile.specs.declared.extension.Extension.{Extension}
use Rattle.sieve_profile.specs.declared.extension.Extension.TheVariants.{Date, Mailbox}
use Rattle.std.proofs.lemmas.Bool.{false≢true}
use Rattle.std.proofs.lemmas.Result.{IfOk-weaker}
use Rattle.sieve_profile.specs.view.Profile.{profile_as}
use Rattle.command_line.specs.declared.words.CommandLine.{CommandLine}
use Rattle.command_line.proofs.Named.{always_named}
use Rattle.command_line.proofs.words.command_of.Goals as goal

simple : is_simple the_app ≡ true
unfolding the_app top_app session_shape dump_shape test_shape path_rule letter_rule name_rule names_rule clap_on_literals
simple = refl

simple_and_free : is_simple_and_free the_app ≡ true
unfolding the_app top_app session_shape dump_shape test_shape path_rule letter_rule name_rule names_rule clap_on_literals
simple_and_free = refl

-- a job counts only where there are no faults
none_where_named : (kinds : Kinds) (job : Option Job) (one : Job) → where_taken kinds job ≡ Some one → kinds ≡ []
none_where_named [] job one named = refl
none_where_named (kind ∷ kinds) job one named = absurd (cc)

-- where there are no faults, an error is out of memory
only_memory : (kinds : Kinds) (e : Error) → kinds ≡ [] → HasKind kinds e → kind_of e ≡ OutOfMemory
only_memory [] e none (inl memory) = memory
only_memory [] e none (inr among) = absurd among
only_memory (kind ∷ kinds) e none has = absurd (cc)

refusal : (kinds : Kinds) (said : Result Profile Text) (asked : Option Job) (e : Error) (fault : UsageFault) → HasKind kinds e → IsFaultFor (kind_of e) fault
    → IsRefusalFor kinds said asked fault
refusal kinds said asked e NoMemory has answers = tt
refusal kinds said asked e (UnknownName name) has answers = absurd answers
refusal kinds said asked e NeedsMailbox has answers = absurd answers
refusal kinds said asked e NeedsDate has answers = absurd answers
refusal kinds said asked e (BadClock word) has answers = absurd answers
refusal kinds said asked e (Usage help text) (inl memory) answers = absurd (answers.0 memory)
refusal kinds said asked e (Usage help text) (inr among) answers = (kind_of e, among, answers.1)

-- words that name a job have no fault
named_none : (words : List Text) (one : Job) → named_job words ≡ Some one → fault_of the_app words ≡ []
unfolding named_job
named_none words one named = none_where_named (fault_of the_app words) _ one named

named_from : (words : List Text) (met : Option (Text × List Row)) (job : Option Job) (one : Job) → fault_of the_app words ≡ []
    → met ≡ subcommand_of the_app words → job ≡ job_of met → job ≡ Some one → named_job words ≡ Some one
unfolding named_job
named_from words met job one none is_met is_job is_one =
    ap (λ kinds. where_taken kinds (job_of (subcommand_of the_app words))) none ∙ ap job_of (sym is_met) ∙ sym is_job ∙ is_one

-- where the subcommand that was met has a job, the job is found
none_met : (met : Option (Text × List Row)) (job : Option Job) → job ≡ job_of met → job ≡ None → is_some (job_of met) ≡ true → ⊥
none_met met None is_job is_none named =
    let bad : is_some {T = Job} None ≡ true = ap is_some is_job ∙ named in absurd (cc)
none_met met (Some job) is_job is_none named = absurd (cc)

-- the kind of an error for simple and free apps is also that of `the_app`
kind_at : (a : App) (words : List Text) (e : Error) → a ≡ the_app → (is_simple_and_free a ≡ true → HasKind (fault_of a words) e)
    → HasKind (fault_of the_app words) e
kind_at a words e is_program has =
    let P : App → Type 0 = λ b. HasKind (fault_of b words) e in
    subst P is_program (has (ap is_simple_and_free is_program ∙ simple_and_free))

none_at : (a : App) (words : List Text) → a ≡ the_app → (is_simple_and_free a ≡ true → fault_of a words ≡ []) → fault_of the_app words ≡ []
none_at a words is_program none =
    let P : App → Type 0 = λ b. fault_of b words ≡ [] in
    subst P is_program (none (ap is_simple_and_free is_program ∙ simple_and_free))

met_at : (a : App) (words : List Text) (m : ArgMatches) → a ≡ the_app → HasMatchesOf a words m → subcommand_rows_of m ≡ subcommand_of the_app words
met_at a words m is_program has =
    (has (ap is_simple is_program ∙ simple)).1 ∙ ap (λ (b : App). subcommand_of b words) is_program

pub returns-in-Err-clause-named : goal.returns-in-Err-clause-named
returns-in-Err-clause-named g c = λ asked profile clock named said allowed told. c.usage_fault.ensures.memory
    (only_memory _ c.in-Err.error (named_none _ asked named) (kind_at _ _ c.in-Err.error c.in_ok-program.ensures c.in-Err.ensures.kinds))

pub returns-in-Err-clause-refused : goal.returns-in-Err-clause-refused
returns-in-Err-clause-refused g c =
    let words = map g.S.AsStr.text c.args.words.now in
    refusal _ (said_profile words) (named_job words) c.in-Err.error _ (kind_at _ _ c.in-Err.error c.in_ok-program.ensures c.in-Err.ensures.kinds) c.usage_fault.ensures.usage

pub unreachable-requires : goal.unreachable-requires
unreachable-requires g c =
    let words = map g.S.AsStr.text c.args.words.now in
    let is_program = c.in_ok-program.ensures in
    let is_met : subcommand_rows_of c.in-Ok.matches ≡ subcommand_of the_app words = met_at _ words _ is_program c.in-Ok.ensures.matches in
    let is_named = always_named words (none_at _ words is_program c.in-Ok.ensures.kinds) in
    none_met (subcommand_rows_of c.in-Ok.matches) c.in_ok-job.field-0 c.in_ok-job.ensures c.in-None.is
    (ap (λ met. is_some (job_of met)) is_met ∙ is_named)

-- The clauses of an answer. It has the profile that is said, which suits the job, or is for a name
-- in place of one.
has_profile : (said : Result Profile Text) (asked : Job) (answer : Result CommandLine UsageFault) → SaysOf said asked answer
    → IfOk answer (λ line. said ≡ Ok (profile_as line.profile))
has_profile said asked (Ok line) says = says.0
has_profile said asked (Err fault) says = tt

has_needed : (said : Result Profile Text) (asked : Job) (answer : Result CommandLine UsageFault) → SaysOf said asked answer
    → IfOk answer (λ line. line.job ≡ asked) → IfOk answer (λ line. allows (profile_as line.profile) line.job ≡ true)
has_needed said asked (Ok line) says is = ap (allows (profile_as line.profile)) is ∙ says.1
has_needed said asked (Err fault) says is = tt

has_clock : (said : Result Profile Text) (asked : Job) (answer : Result CommandLine UsageFault) → SaysOf said asked answer
    → IfOk answer (λ line. line.job ≡ asked) → IfOk answer (λ line. clock_said line.job ≡ Ok line.clock)
has_clock said asked (Ok line) says is = ap clock_said is ∙ says.2
has_clock said asked (Err fault) says is = tt

never_named : (said : Result Profile Text) (profile : Profile) (name : Text) → said ≡ Ok profile → said ≡ Err name → ⊥
never_named (Ok other) profile name ok is = absurd (cc)
never_named (Err other) profile name ok is = absurd (cc)

neither : (first second : Bool) → (not first && not second) ≡ true → (first ≡ true → ⊥) × (second ≡ true → ⊥)
neither true second none = absurd (cc)
neither false true none = absurd (cc)
neither false false none = (λ is. false≢true is, λ is. false≢true is)

never_lacking : (name : Extension) (said : Result Profile Text) (profile : Profile) (asked : Job) → said ≡ Ok profile
    → (is_lacking profile asked name ≡ true → ⊥) → Lacks name said (Some asked) → ⊥
never_lacking name (Ok other) profile asked ok never lacks =
    let same : profile ≡ other = cc in never (ap (λ (p : Profile). is_lacking p asked name) same ∙ lacks)
never_lacking name (Err unknown) profile asked ok never lacks = lacks

never_bad : (said : Result (Option Clock) Text) (clock : Option Clock) (word : Text) → said ≡ Ok clock → said ≡ Err word → ⊥
never_bad (Ok other) clock word ok is = absurd (cc)
never_bad (Err other) clock word ok is = absurd (cc)

bad_clock : (said : Result Profile Text) (asked : Job) (word : Text) → HasBadClock said (Some asked) word → clock_said asked ≡ Err word
bad_clock (Ok profile) asked word bad = bad.1
bad_clock (Err unknown) asked word bad = absurd bad

memory_alone : (said : Result Profile Text) (profile : Profile) (clock : Option Clock) (asked : Job) (answer : Result CommandLine UsageFault)
    → SaysOf said asked answer → said ≡ Ok profile → allows profile asked ≡ true → clock_said asked ≡ Ok clock → IsOkUnless answer NoMemory
memory_alone said profile clock asked (Ok line) says ok allowed told = tt
memory_alone said profile clock asked (Err NoMemory) says ok allowed told = refl
memory_alone said profile clock asked (Err (UnknownName name)) says ok allowed told = absurd (never_named said profile name ok says)
memory_alone said profile clock asked (Err NeedsMailbox) says ok allowed told =
    absurd (never_lacking Mailbox said profile asked ok (neither (is_lacking profile asked Mailbox) (is_lacking profile asked Date) allowed).0 says)
memory_alone said profile clock asked (Err NeedsDate) says ok allowed told =
    absurd (never_lacking Date said profile asked ok (neither (is_lacking profile asked Mailbox) (is_lacking profile asked Date) allowed).1 says)
memory_alone said profile clock asked (Err (BadClock word)) says ok allowed told = absurd (never_bad (clock_said asked) clock word told (bad_clock said asked word says))
memory_alone said profile clock asked (Err (Usage help text)) says ok allowed told = absurd says

name_refused : (kinds : Kinds) (said : Result Profile Text) (named : Option Job) (asked : Job) (answer : Result CommandLine UsageFault) → kinds ≡ []
    → named ≡ Some asked → SaysOf said asked answer → IfErr answer (IsRefusalFor kinds said named)
name_refused kinds said named asked (Ok line) none is says = tt
name_refused kinds said named asked (Err NoMemory) none is says = tt
name_refused kinds said named asked (Err (UnknownName name)) none is says = (none, says)
name_refused kinds said named asked (Err NeedsMailbox) none is says = (none, subst (Lacks Mailbox said) (sym is) says)
name_refused kinds said named asked (Err NeedsDate) none is says = (none, subst (Lacks Date said) (sym is) says)
name_refused kinds said named asked (Err (BadClock word)) none is says =
    let P : Option Job → Type 0 = λ job. HasBadClock said job word in
    (none, subst P (sym is) says)
name_refused kinds said named asked (Err (Usage help text)) none is says = absurd says

only_job : (one other : Job) → Some one ≡ Some other → one ≡ other
only_job one other is = cc

-- the profile that the words say is that of the subcommand that was met
says_at : (words : List Text) (met : Option (Text × List Row)) (asked : Job) (answer : Result CommandLine UsageFault) → met ≡ subcommand_of the_app words
    → SaysOf (profile_met met) asked answer → SaysOf (said_profile words) asked answer
unfolding said_profile
says_at words met asked answer is =
    let P : Option (Text × List Row) → Type 0 = λ m. SaysOf (profile_met m) asked answer in
    subst P is

pub returns-clause-ok : goal.returns-clause-ok
returns-clause-ok g c =
    let words = map g.S.AsStr.text c.args.words.now in
    let is_program = c.in_ok-program.ensures in
    let named = named_from words (subcommand_rows_of c.in-Ok.matches) c.in_ok-job.field-0 c.in-Some.job (none_at _ words is_program c.in-Ok.ensures.kinds)
    (met_at _ words _ is_program c.in-Ok.ensures.matches) c.in_ok-job.ensures c.in-Some.is in
    IfOk-weaker c.with_profile.result _ _ (λ line is. named ∙ ap (λ (job : Job). Some job) (sym is)) c.with_profile.ensures.job

pub returns-clause-profile : goal.returns-clause-profile
returns-clause-profile g c =
    let words = map g.S.AsStr.text c.args.words.now in
    has_profile (said_profile words) c.in-Some.job c.with_profile.result
    (says_at words _ c.in-Some.job c.with_profile.result (met_at _ words _ c.in_ok-program.ensures c.in-Ok.ensures.matches) c.with_profile.ensures.profile)

pub returns-clause-allowed : goal.returns-clause-allowed
returns-clause-allowed g c = has_needed _ c.in-Some.job c.with_profile.result c.with_profile.ensures.profile c.with_profile.ensures.job

pub returns-clause-clock : goal.returns-clause-clock
returns-clause-clock g c = has_clock _ c.in-Some.job c.with_profile.result c.with_profile.ensures.profile c.with_profile.ensures.job

pub returns-clause-named : goal.returns-clause-named
returns-clause-named g c = λ asked profile clock named said allowed told.
    let words = map g.S.AsStr.text c.args.words.now in
    let is_program = c.in_ok-program.ensures in
    let is_met = met_at _ words _ is_program c.in-Ok.ensures.matches in
    let is_named = named_from words (subcommand_rows_of c.in-Ok.matches) c.in_ok-job.field-0 c.in-Some.job (none_at _ words is_program c.in-Ok.ensures.kinds)
    is_met c.in_ok-job.ensures c.in-Some.is in
    let same : asked ≡ c.in-Some.job = only_job asked c.in-Some.job (sym named ∙ is_named) in
    memory_alone (said_profile words) profile clock c.in-Some.job c.with_profile.result
    (says_at words _ c.in-Some.job c.with_profile.result is_met c.with_profile.ensures.profile) said
    (ap (allows profile) (sym same) ∙ allowed) (ap clock_said (sym same) ∙ told)

pub returns-clause-refused : goal.returns-clause-refused
returns-clause-refused g c =
    let words = map g.S.AsStr.text c.args.words.now in
    let none = none_at _ words c.in_ok-program.ensures c.in-Ok.ensures.kinds in
    let is_met = met_at _ words _ c.in_ok-program.ensures c.in-Ok.ensures.matches in
    name_refused _ (said_profile words) (named_job words) c.in-Some.job c.with_profile.result none
    (named_from words (subcommand_rows_of c.in-Ok.matches) c.in_ok-job.field-0 c.in-Some.job none is_met c.in_ok-job.ensures c.in-Some.is)
    (says_at words _ c.in-Some.job c.with_profile.result is_met c.with_profile.ensures.profile)
