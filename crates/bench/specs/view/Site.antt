-- The values of a bench that all messages are judged with.
use Rattle.std.specs.Prelude.{◌≡◌, ℕ, List, Option, map, false, nat_eq}
use Rattle.std.specs.List.{IsDistinct}
use Rattle.std.specs.Map.{keys_of}
use Rattle.std.specs.Option.{option_copied}
use lib.Pointwise.{pointwise}
use Rattle.script_names.specs.declared.name.ScriptName.{ScriptName}
use Rattle.sieve_delivery.specs.declared.envelope.Envelope.{Envelope}
use Rattle.script_names.specs.Name.{name_eq}
use Rattle.bench.specs.Content.{text_at}
use Rattle.bench.specs.Report.{Site, verdict_by}
use Rattle.bench.specs.declared.entry.MessageEntry.{MessageEntry}
use Rattle.bench.specs.view.Entry.{KeepsDue, messages_of, unread}
use Rattle.bench.specs.declared.site.Site as sites
use Rattle.bench.specs.view.Scripts.{ScriptsState}

abbrev pub site_by : Option ScriptName → Envelope → ScriptsState → Site
site_by main envelope scripts = record { profile = scripts.profile; main = main; envelope = envelope; scripts = scripts.scripts }

abbrev pub site_as : sites.Site → Site
site_as site = site_by (option_copied site.main) site.envelope.now site.scripts.now

-- the same with other scripts
abbrev pub with_scripts : Site → List (ScriptName × List ℕ) → Site
with_scripts site scripts = record site { scripts = scripts }

-- Those messages are marked whose runs looked a name up, and no two have one id. Each verdict that
-- is kept stays due where the text at no other name changes.
pub record ForgetsReaders (name : ScriptName) (old new : List (List ℕ × MessageEntry)) : Type 0 where
  pub entries : new ≡ map (λ e. (e.0, unread name e.1)) old
  pub messages : messages_of new ≡ messages_of old
  pub ids : IsDistinct (pointwise nat_eq) (keys_of new)
  pub due : (site : Site) (scripts : List (ScriptName × List ℕ))
      → ((other : ScriptName) → name_eq name other ≡ false → text_at site.scripts other ≡ text_at scripts other)
      → KeepsDue (verdict_by site) old → KeepsDue (verdict_by (with_scripts site scripts)) new
