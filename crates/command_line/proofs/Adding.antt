-- A command with one argument more, and with two.
use Rattle.std.proofs.Common.{◌≡◌, ◌∙◌, ◌||◌, [], ◌∷◌, Bool, false, ap}
use Rattle.std.proofs.Math.Bool.{or-false}
use Rattle.clap.specs.Words.{AddsArg, Rule, app_of, rule_of, with_rule}
use Rattle.clap.specs.declared.builder.arg.Arg.{Arg}
use Rattle.clap.specs.declared.builder.command.Command.{Command}
use Rattle.clap.specs.declared.builder.command.Command.TheViews.{out-Command}
use Rattle.command_line.specs.CommandLine.{HasMore}

-- a command with one argument more, which is not global
pub one_more : (old : Command) (argument : Arg) (new : Command) (rule : Rule) → AddsArg old argument new
    → rule_of argument ≡ rule → argument.global ≡ false → HasMore old (rule ∷ []) new
one_more old argument new rule added is local =
    (added.shape local ∙ ap (with_rule (app_of old)) is, added.globals ∙ ap (λ (b : Bool). (out-Command old).has_globals || b) local ∙ or-false _)

-- a command with two arguments more, one after the other
pub two_more : (old between new : Command) (first second : Rule) → HasMore old (first ∷ []) between → HasMore between (second ∷ []) new
    → HasMore old (first ∷ second ∷ []) new
two_more old between new first second one two = (two.0 ∙ ap (λ a. with_rule a second) one.0, two.1 ∙ one.1)
