-- Worked rows of the edits that make a content anew, and of the laws about each content.
use Rattle.std.proofs.Common.{◌≡◌, [], ◌∷◌, None, Some, refl, codes}
use Rattle.std.specs.List.{IsDistinct}
use Rattle.std.specs.List.Sorted.{IsStrictlySortedBy}
use Rattle.date_text.specs.Zone.{east}
use Rattle.script_names.specs.declared.location.Location.TheVariants.{Personal, Global}
use Rattle.script_names.specs.declared.name.ScriptName.{ScriptName}
use Rattle.sieve_profile.specs.Profile.{Profile}
use Rattle.bench.specs.Content.{Content, put_script, put_message, set_for_all, set_for_one}
use Rattle.bench.specs.Edits.{AreDistinctIds, AreOrdered, rebuild}
use Rattle.bench.specs.declared.setting.MessageSetting.TheVariants as own
use Rattle.bench.specs.declared.setting.Setting.TheVariants as common

abbrev a : ScriptName
a = record { location = Personal; name = codes "a" }

abbrev b : ScriptName
b = record { location = Personal; name = codes "b" }

abbrev shared : ScriptName
shared = record { location = Global; name = codes "a" }

-- A content with two scripts, two messages, a sender, a list of mailboxes, a clock and a main
-- script. A text is expected of one message. It has addresses of its own, and the other has none.
abbrev held : Profile → Content
held profile = record {
  profile = profile;
  main = Some shared;
  envelope = record { from = codes "x@y"; to = []; mailbox = codes "INBOX"; mailboxes = codes "Lists\n"; clock = Some (record { seconds = 1783245600; zone = east 120 }) };
  scripts = (b, codes "keep;") ∷ (shared, codes "stop;") ∷ [];
  messages = (codes "2", record { octets = codes "two"; expected = Some (codes "discard\n"); addresses = Some (record { from = codes "a@b"; to = [] }) }) ∷ (codes "1", record { octets = codes "one"; expected = None; addresses = None }) ∷ [];
}

-- the edits that make the content above anew, in their order
rebuild_row : (profile : Profile) → rebuild (held profile) ≡ put_script b (codes "keep;") ∷ put_script shared (codes "stop;")
    ∷ put_message (codes "2") (codes "two") ∷ set_for_one (codes "2") (own.Expected (Some (codes "discard\n"))) ∷ set_for_one (codes "2") (own.Addresses (Some (record { from = codes "a@b"; to = [] })))
    ∷ put_message (codes "1") (codes "one") ∷ set_for_one (codes "1") (own.Expected None) ∷ set_for_one (codes "1") (own.Addresses None)
    ∷ set_for_all (common.Addresses (record { from = codes "x@y"; to = [] })) ∷ set_for_all (common.Mailbox (codes "INBOX")) ∷ set_for_all (common.Mailboxes (codes "Lists\n"))
    ∷ set_for_all (common.Clock (Some (record { seconds = 1783245600; zone = east 120 }))) ∷ set_for_all (common.Main (Some shared)) ∷ []
unfolding rebuild
rebuild_row profile = refl

-- a personal script comes before a shared one, and no name stands twice
turned_row : AreOrdered ((shared, []) ∷ (b, []) ∷ []) → ⊥
unfolding IsStrictlySortedBy
turned_row order = let e = order.0.0 in absurd cc

twice_row : AreOrdered ((a, []) ∷ (a, []) ∷ []) → ⊥
unfolding IsStrictlySortedBy
twice_row order = let e = order.0.0 in absurd cc

-- no id stands twice, next to itself or not
ids_row : AreDistinctIds (codes "2" ∷ codes "1" ∷ codes "2" ∷ []) → ⊥
unfolding IsDistinct
ids_row distinct = let e = distinct.0.1.0 in absurd cc
