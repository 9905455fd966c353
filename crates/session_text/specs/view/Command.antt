-- The models of the program's commands.
use Rattle.session_text.specs.SessionLine as line
use Rattle.session_text.specs.declared.session_line.SessionCommand.{SessionCommand}
use Rattle.session_text.specs.declared.session_line.SessionCommand.TheVariants.{Nothing, Script, Message, Main, NoMain, Rename, DropScript, DropMessage, Envelope, Mailbox, Report, Dump, Expect, NoExpect, Mailboxes, MessageEnvelope, NoMessageEnvelope, Clock, NoClock}
use Rattle.session_text.specs.declared.cutting.Quoting.{Quoting}
use Rattle.session_text.specs.declared.cutting.Quoting.TheVariants as spots

abbrev pub command_as : SessionCommand → line.SessionCommand
command_as Nothing = line.nothing
command_as (Script location name count) = line.script location name count
command_as (Message id count) = line.message id count
command_as (Main location name) = line.main location name
command_as NoMain = line.no_main
command_as (Rename location name new_location new_name) = line.rename location name new_location new_name
command_as (DropScript location name) = line.drop_script location name
command_as (DropMessage id) = line.drop_message id
command_as (Envelope from to) = line.envelope from to
command_as (Mailbox mailbox) = line.mailbox mailbox
command_as Report = line.report
command_as (Dump location name) = line.dump location name
command_as (Expect id count) = line.expect id count
command_as (NoExpect id) = line.no_expect id
command_as (Mailboxes count) = line.mailboxes count
command_as (MessageEnvelope id from to) = line.message_envelope id from to
command_as (NoMessageEnvelope id) = line.no_message_envelope id
command_as (Clock clock) = line.clock clock
command_as NoClock = line.no_clock

abbrev pub quoting_as : Quoting → line.Quoting
quoting_as spots.Outside = line.outside
quoting_as spots.Inside = line.inside
quoting_as spots.Escaped = line.escaped
