-- Which messages are stale: the next report runs these. An edit makes those stale whose verdict it
-- may change.
use Rattle.octets.specs.Octet.{is_among}
use Rattle.std.specs.Prelude.{ℕ, Bool, true, false, ◌&&◌, ◌||◌, List, map, filter, nat_eq, Option}
use Rattle.std.specs.Option.{option_map}
use lib.Pointwise.{pointwise}
use Rattle.script_names.specs.declared.name.ScriptName.{ScriptName}
use Rattle.sieve_run.specs.Run.{is_looked_up}
use Rattle.sieve_verdict.specs.Verdict.{Verdict}
use Rattle.bench.specs.Content.{Content, Edit, Sample, message_at, put_script, put_message, rename_script, remove_script, remove_message, set_for_all, set_for_one}
use Rattle.bench.specs.declared.setting.MessageSetting.{MessageSetting}
use Rattle.bench.specs.declared.setting.MessageSetting.TheVariants as own
use Rattle.bench.specs.Report.{site_of, verdict_by}

-- the verdict on a message of a content
abbrev pub verdict_on : Content → Sample → Verdict
verdict_on content sample = verdict_by (site_of content) sample

-- the verdict on the message of an id, where it is there
abbrev pub verdict_due : Content → List ℕ → Option Verdict
verdict_due content id = option_map (verdict_on content) (message_at content.messages id)

-- whether the run on a message looks a name up, present or missing
abbrev pub looks_up : Content → ScriptName → Sample → Bool
looks_up content name sample = is_looked_up name (verdict_on content sample).lookups

-- whether a run sees a setting of its message; the expected text is no part of the run
abbrev pub is_seen : MessageSetting → Bool
is_seen (own.Expected expected) = false
is_seen (own.Addresses addresses) = true

-- whether an edit of a content touches a message
abbrev pub touches : Content → Edit → List ℕ × Sample → Bool
touches content (put_script name text) message = looks_up content name message.1
touches content (put_message id bytes) message = pointwise nat_eq id message.0
touches content (rename_script from to) message = looks_up content from message.1 || looks_up content to message.1
touches content (remove_script name) message = looks_up content name message.1
touches content (remove_message id) message = false
touches content (set_for_all setting) message = true
touches content (set_for_one id setting) message = is_seen setting && pointwise nat_eq id message.0

-- the ids of the messages that pass a test, in their order
unfoldable pub ids_where : (List ℕ × Sample → Bool) → List (List ℕ × Sample) → List (List ℕ)
ids_where test messages = map (λ m. m.0) (filter test messages)

-- The stale messages after an edit from an old to a new content, by their ids in the list's order.
-- They are those of the new content that the edit touches or that were stale.
abbrev pub stale_after : Content → Edit → List (List ℕ) → Content → List (List ℕ)
stale_after old edit stale new = ids_where (λ message. touches old edit message || is_among message.0 stale) new.messages
