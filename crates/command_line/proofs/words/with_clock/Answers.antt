use Rattle.std.proofs.Common.{◌≡◌, true, Ok, Err, Option, refl, subst}
use Rattle.std.specs.declared.result.Result.{Result}
use Rattle.clap.specs.Words.{Text}
use Rattle.date_text.specs.Clock.{Clock}
use Rattle.sieve_profile.specs.Profile.{Profile}
use Rattle.sieve_profile.specs.view.Profile.{profile_as}
use Rattle.command_line.specs.CommandLine.{SaysClock, SaysOf, allows, clock_said}
use Rattle.command_line.specs.declared.words.Job.{Job}
use Rattle.command_line.specs.declared.words.UsageFault.{UsageFault}
use Rattle.command_line.specs.declared.words.UsageFault.TheVariants.{Usage, UnknownName, NeedsMailbox, NeedsDate, BadClock, NoMemory}
use Rattle.command_line.proofs.words.with_clock.Goals as goal

-- the fault of a clock is one of a profile that has each name that the job needs
clock_fault : (profile : Profile) (asked : Job) (said : Result (Option Clock) Text) (fault : UsageFault) → said ≡ clock_said asked → allows profile asked ≡ true
    → SaysClock said (Err fault) → SaysOf (Ok profile) asked (Err fault)
clock_fault profile asked said NoMemory is allowed says = says
clock_fault profile asked said (UnknownName name) is allowed says = absurd says
clock_fault profile asked said NeedsMailbox is allowed says = absurd says
clock_fault profile asked said NeedsDate is allowed says = absurd says
clock_fault profile asked said (BadClock word) is allowed says = let told : clock_said asked ≡ Err word = cc in (allowed, told)
clock_fault profile asked said (Usage help text) is allowed says = absurd says

pub returns-in-Err-clause-profile : goal.returns-in-Err-clause-profile
returns-in-Err-clause-profile c = clock_fault (profile_as c.args.profile) c.args.job (clock_said c.args.job) c.in-Err.fault refl c.requires (subst (SaysClock (clock_said c.args.job)) c.in-Err.is c.clock_said.ensures)
