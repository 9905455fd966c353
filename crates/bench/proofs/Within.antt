-- Edits keep a content within its limits.
use Rattle.std.proofs.Common.{◌≡◌, ℕ, suc, ◌<◌, ◌≤◌, Bool, true, false, ◌&&◌, ◌||◌, if◌then◌else◌, List, [], ◌∷◌, length, Option, None, Some, IfSome, is_none, is_some, Result, Ok, Err, nat_eq, nat_le, nat_lt, refl, sym, ap, subst, ◌∙◌, arith}
use Rattle.std.proofs.lemmas.Bool.Decides.{nat_tests}
use Rattle.std.proofs.lemmas.List.Elements.{All-from_recursion, All-nil, recursion_from_All}
use Rattle.std.proofs.lemmas.Map.Views.{All-keys-insert_entry, All-values-insert_entry, All-map-remove_entry, IfSome-lookup_from_All}
use Rattle.std.specs.BTreeMap as tree
use Rattle.std.specs.List.{All}
use Rattle.std.specs.Map.{keys_of, values_of}
use lib.Pointwise.{pointwise}
use Rattle.sieve_limits.specs.Limits.{address_limit, expected_limit, id_limit, mailbox_limit, mailboxes_limit, message_count_limit, message_limit, name_limit, script_count_limit, text_limit}
use Rattle.script_names.specs.Name.{name_cmp, name_eq}
use Rattle.script_names.specs.declared.name.ScriptName.{ScriptName}
use Rattle.sieve_delivery.specs.declared.envelope.Addresses.{Addresses}
use Rattle.sieve_delivery.specs.declared.envelope.Envelope.{Envelope}
use Rattle.bench.specs.Content.{Content, Edit, Sample, after, new_content, put_script, put_message, rename_script, remove_script, remove_message, text_at, message_at, put_over, with_script, with_message, changed, with_renamed, without_script, without_message, is_long, is_long_id, script_refusal, message_refusal, rename_refusal, remove_script_refusal, absent_refusal, are_long, set_for_all, set_for_one, setting_refusal, one_refusal, is_large, is_large_for_one, main_with, envelope_with, sample_with}
use Rattle.bench.specs.Edits.{IsInOrder, IsWithinLimits, AreScriptsWithin, AreMessagesWithin, AreAddressesWithin, AreOrdered, made_or_old, content_after, IsEnvelopeWithin}
use Rattle.sieve_profile.specs.Profile.{Profile}
use Rattle.bench.specs.declared.fault.EditFault.{EditFault}
use Rattle.bench.specs.declared.setting.MessageSetting.{MessageSetting}
use Rattle.bench.specs.declared.setting.MessageSetting.TheVariants as own
use Rattle.bench.specs.declared.setting.Setting.{Setting}
use Rattle.bench.specs.declared.setting.Setting.TheVariants as common
use Rattle.bench.specs.declared.fault.EditFault.TheVariants.{TooLarge, Full, NoSuchScript, NameTaken, NoSuchMessage}
use Rattle.bench.proofs.Names.{is_name, text-with_script}
use Rattle.bench.proofs.Kept.{accepted, all_changed, all_put, all_values_put, keys_changed, length_changed, name_total, none_inserted, none_more, none_put, one_inserted, one_put, one_removed, order_stays}

not_past : (limit n : ℕ) → nat_lt limit n ≡ false → n ≤ limit
not_past limit n is = grind (arith, nat_tests)

not_full : (limit n : ℕ) → nat_le limit n ≡ false → n < limit
not_full limit n is = grind (arith, nat_tests)

-- A count stays within its limit where it doesn't grow. It does too where it grows by one and there
-- was room.
counted : (limit old new : ℕ) (fresh : Bool) → (fresh ≡ true → nat_le limit old ≡ false) → new ≤ suc old → (fresh ≡ false → new ≡ old) → old ≤ limit → new ≤ limit
counted limit old new true room more same within = let below : old < limit = not_full limit old (room refl) in omega arith
counted limit old new false room more same within = let is : new ≡ old = same refl in omega arith

-- A put that isn't refused isn't past its limits of size. Where it is new, there is room for it.
put_passes : (long large fresh full : Bool) (fault other : EditFault) → (if long || large then Some fault else if fresh && full then Some other else None) ≡ None → (long ≡ false) × (large ≡ false) × (fresh ≡ true → full ≡ false)
put_passes true large fresh full fault other is = absurd cc
put_passes false true fresh full fault other is = absurd cc
put_passes false false true true fault other is = absurd cc
put_passes false false true false fault other is = (refl, refl, λ new. refl)
put_passes false false false full fault other is = (refl, refl, λ new. absurd cc)

rename_passes : (long other_long missing taken : Bool) → (if long || other_long then Some TooLarge else if missing then Some NoSuchScript else if taken then Some NameTaken else None) ≡ None → (other_long ≡ false) × (taken ≡ false)
rename_passes true other_long missing taken is = absurd cc
rename_passes false true missing taken is = absurd cc
rename_passes false false true taken is = absurd cc
rename_passes false false false true is = absurd cc
rename_passes false false false false is = (refl, refl)

found_passes : (long large missing : Bool) → (if long || large then Some TooLarge else if missing then Some NoSuchMessage else None) ≡ None → large ≡ false
found_passes true large missing is = absurd cc
found_passes false true missing is = absurd cc
found_passes false false missing is = refl

one_passes : (large : Bool) (fault : EditFault) → (if large then Some fault else None) ≡ None → large ≡ false
one_passes true fault is = absurd cc
one_passes false fault is = refl

both_false : (a b : Bool) → (a || b) ≡ false → (a ≡ false) × (b ≡ false)
both_false true b is = absurd cc
both_false false true is = absurd cc
both_false false false is = (refl, refl)

-- a script that is renamed is another than the one that it becomes
other_name : (scripts : List (ScriptName × List ℕ)) (from to : ScriptName) (text : List ℕ) → text_at scripts from ≡ Some text → is_some (text_at scripts to) ≡ false → name_eq to from ≡ false
other_name scripts from to text there free = by (name_eq to from) refl
  where
    by : (b : Bool) → name_eq to from ≡ b → b ≡ false
    by true is = let e : is_some (text_at scripts to) ≡ true = ap (λ name. is_some (text_at scripts name)) (is_name to from is) ∙ ap is_some there in absurd cc
    by false is = refl

-- scripts stay within the limits where one of them is put, renamed or removed
module _ (scripts : List (ScriptName × List ℕ)) (order : AreOrdered scripts) (limits : AreScriptsWithin scripts) where
  scripts_put : (name : ScriptName) (text : List ℕ) → script_refusal scripts name text ≡ None → AreScriptsWithin (with_script name text scripts)
  scripts_put name text none = record {
    count =
        counted script_count_limit (length scripts) (length (with_script name text scripts)) (is_none (text_at scripts name)) passed.2
        (one_inserted name_total name text scripts) (none_inserted name_total name text scripts order) limits.count;
    names = All-keys-insert_entry name_cmp name text (λ n. length n.name ≤ name_limit) scripts limits.names (not_past name_limit (length name.name) passed.0);
    texts = All-values-insert_entry name_cmp name text (λ t. length t ≤ text_limit) scripts limits.texts (not_past text_limit (length text) passed.1);
  }
    where
      passed : (is_long name.name ≡ false) × (nat_lt text_limit (length text) ≡ false) × (is_none (text_at scripts name) ≡ true → nat_le script_count_limit (length scripts) ≡ false)
      passed = put_passes (is_long name.name) (nat_lt text_limit (length text)) (is_none (text_at scripts name)) (nat_le script_count_limit (length scripts)) TooLarge Full none

  scripts_removed : (name : ScriptName) → AreScriptsWithin (without_script name scripts)
  scripts_removed name = record {
    count = let fewer = none_more (tree.is_at (name_cmp name)) scripts in let within : length scripts ≤ script_count_limit = limits.count in omega arith;
    names = All-map-remove_entry (tree.is_at (name_cmp name)) (λ e. e.0) (λ n. length n.name ≤ name_limit) scripts limits.names;
    texts = All-map-remove_entry (tree.is_at (name_cmp name)) (λ e. e.1) (λ t. length t ≤ text_limit) scripts limits.texts;
  }

  scripts_renamed : (from to : ScriptName) → rename_refusal scripts from to ≡ None → (found : Option (List ℕ)) → text_at scripts from ≡ found → AreScriptsWithin (with_renamed from found to scripts)
  scripts_renamed from to none None there = limits
  scripts_renamed from to none (Some text) there = record {
    count =
        let copied : is_none (text_at (with_script to text scripts) from) ≡ false = ap is_none (text-with_script to text from scripts (other_name scripts from to text there passed.1) ∙ there) in
        let less = one_removed (tree.is_at (name_cmp from)) (with_script to text scripts) copied in
        let more = one_inserted name_total to text scripts in
        let within : length scripts ≤ script_count_limit = limits.count in
        omega arith;
    names =
        All-map-remove_entry (tree.is_at (name_cmp from)) (λ e. e.0) (λ n. length n.name ≤ name_limit) (with_script to text scripts)
        (All-keys-insert_entry name_cmp to text (λ n. length n.name ≤ name_limit) scripts limits.names (not_past name_limit (length to.name) passed.0));
    texts =
        All-map-remove_entry (tree.is_at (name_cmp from)) (λ e. e.1) (λ t. length t ≤ text_limit) (with_script to text scripts)
        (All-values-insert_entry name_cmp to text (λ t. length t ≤ text_limit) scripts limits.texts
        (subst (λ (one : Option (List ℕ)). IfSome one (λ t. length t ≤ text_limit)) there (IfSome-lookup_from_All (λ t. length t ≤ text_limit) (tree.is_at (name_cmp from)) scripts limits.texts)));
  }
    where
      passed : (is_long to.name ≡ false) × (is_some (text_at scripts to) ≡ false)
      passed = rename_passes (is_long from.name) (is_long to.name) (is_none (text_at scripts from)) (is_some (text_at scripts to)) none

-- a text that is expected is within its limit
abbrev IsTextWithin : Option (List ℕ) → Type 0
IsTextWithin expected = IfSome expected (λ text. length text ≤ expected_limit)

-- addresses of a message's own are within their limit
abbrev AreOwnWithin : Option Addresses → Type 0
AreOwnWithin addresses = IfSome addresses AreAddressesWithin

-- A test that a new message passes, and that other octets don't change, is still passed after a
-- put.
put_within : (P : Sample → Type 0) (bytes : List ℕ) (found : Option Sample) → P (put_over bytes None) → ((sample : Sample) → P sample → P (record sample { octets = bytes })) → IfSome found P → P (put_over bytes found)
put_within P bytes None fresh stays within = fresh
put_within P bytes (Some sample) fresh stays within = stays sample within

-- messages stay within the limits where some are put, changed and removed
module _ (messages : List (List ℕ × Sample)) (limits : AreMessagesWithin messages) where
  messages_put : (id bytes : List ℕ) → message_refusal messages id bytes ≡ None → AreMessagesWithin (with_message id bytes messages)
  messages_put id bytes none = record {
    count =
        counted message_count_limit (length messages) (length (with_message id bytes messages)) (is_none (message_at messages id)) passed.2
        (one_put id sample messages) (none_put id sample messages) limits.count;
    ids =
        All-from_recursion (λ i. length i ≤ id_limit) (keys_of (with_message id bytes messages))
        (all_put id sample (λ i. length i ≤ id_limit) messages (recursion_from_All (λ i. length i ≤ id_limit) (keys_of messages) limits.ids) (not_past id_limit (length id) passed.0));
    octets = all (λ s. length s.octets ≤ message_limit) limits.octets small (λ s h. small);
    expected = all (λ s. IsTextWithin s.expected) limits.expected tt (λ s h. h);
    addresses = all (λ s. AreOwnWithin s.addresses) limits.addresses tt (λ s h. h);
  }
    where
      sample : Sample
      sample = put_over bytes (message_at messages id)

      passed : (is_long_id id ≡ false) × (nat_lt message_limit (length bytes) ≡ false) × (is_none (message_at messages id) ≡ true → nat_le message_count_limit (length messages) ≡ false)
      passed = put_passes (is_long_id id) (nat_lt message_limit (length bytes)) (is_none (message_at messages id)) (nat_le message_count_limit (length messages)) TooLarge Full none

      small : length bytes ≤ message_limit
      small = not_past message_limit (length bytes) passed.1

      all : (P : Sample → Type 0) → All P (values_of messages) → P (put_over bytes None) → ((s : Sample) → P s → P (record s { octets = bytes })) → All P (values_of (with_message id bytes messages))
      all P within fresh stays =
          All-from_recursion P (values_of (with_message id bytes messages))
          (all_values_put id sample P messages (recursion_from_All P (values_of messages) within)
          (put_within P bytes (message_at messages id) fresh stays (IfSome-lookup_from_All P (pointwise nat_eq id) messages within)))

  messages_changed : (id : List ℕ) (change : Sample → Sample) → ((s : Sample) → length s.octets ≤ message_limit → length (change s).octets ≤ message_limit)
      → ((s : Sample) → IsTextWithin s.expected → IsTextWithin (change s).expected) → ((s : Sample) → AreOwnWithin s.addresses → AreOwnWithin (change s).addresses) → AreMessagesWithin (changed id change messages)
  messages_changed id change octets expected addresses = record {
    count = subst (λ n. n ≤ message_count_limit) (sym (length_changed id change messages)) limits.count;
    ids = subst (All (λ i. length i ≤ id_limit)) (sym (keys_changed id change messages)) limits.ids;
    octets = all (λ s. length s.octets ≤ message_limit) limits.octets octets;
    expected = all (λ s. IsTextWithin s.expected) limits.expected expected;
    addresses = all (λ s. AreOwnWithin s.addresses) limits.addresses addresses;
  }
    where
      all : (P : Sample → Type 0) → All P (values_of messages) → ((s : Sample) → P s → P (change s)) → All P (values_of (changed id change messages))
      all P within stays = All-from_recursion P (values_of (changed id change messages)) (all_changed id change P messages stays (recursion_from_All P (values_of messages) within))

  messages_removed : (id : List ℕ) → AreMessagesWithin (without_message id messages)
  messages_removed id = record {
    count = let fewer = none_more (pointwise nat_eq id) messages in let within : length messages ≤ message_count_limit = limits.count in omega arith;
    ids = All-map-remove_entry (pointwise nat_eq id) (λ e. e.0) (λ i. length i ≤ id_limit) messages limits.ids;
    octets = All-map-remove_entry (pointwise nat_eq id) (λ e. e.1) (λ s. length s.octets ≤ message_limit) messages limits.octets;
    expected = All-map-remove_entry (pointwise nat_eq id) (λ e. e.1) (λ s. IsTextWithin s.expected) messages limits.expected;
    addresses = All-map-remove_entry (pointwise nat_eq id) (λ e. e.1) (λ s. AreOwnWithin s.addresses) messages limits.addresses;
  }

-- a setting that isn't past its limit keeps what it sets within it
main_within : (setting : Setting) (main : Option ScriptName) → IfSome main (λ name. length name.name ≤ name_limit) → is_large setting ≡ false → IfSome (main_with setting main) (λ name. length name.name ≤ name_limit)
main_within (common.Main None) main within small = tt
main_within (common.Main (Some name)) main within small = not_past name_limit (length name.name) small
main_within other main within small = within

addresses_within : (from to : List ℕ) → are_long from to ≡ false → (length from ≤ address_limit) × (length to ≤ address_limit)
addresses_within from to small =
    let short = both_false (nat_lt address_limit (length from)) (nat_lt address_limit (length to)) small in
    (not_past address_limit (length from) short.0, not_past address_limit (length to) short.1)

envelope_within : (setting : Setting) (envelope : Envelope) → IsEnvelopeWithin envelope → is_large setting ≡ false → IsEnvelopeWithin (envelope_with setting envelope)
envelope_within (common.Main name) envelope within small = within
envelope_within (common.Addresses addresses) envelope within small =
    let short = addresses_within addresses.from addresses.to small in
    record { from = short.0; to = short.1; mailbox = within.mailbox; mailboxes = within.mailboxes }
envelope_within (common.Mailbox mailbox) envelope within small = record { from = within.from; to = within.to; mailbox = not_past mailbox_limit (length mailbox) small; mailboxes = within.mailboxes }
envelope_within (common.Mailboxes text) envelope within small = record { from = within.from; to = within.to; mailbox = within.mailbox; mailboxes = not_past mailboxes_limit (length text) small }
envelope_within (common.Clock clock) envelope within small = record { from = within.from; to = within.to; mailbox = within.mailbox; mailboxes = within.mailboxes }

octets_within : (setting : MessageSetting) (s : Sample) → length s.octets ≤ message_limit → length (sample_with setting s).octets ≤ message_limit
octets_within (own.Expected expected) s within = within
octets_within (own.Addresses addresses) s within = within

expected_within : (setting : MessageSetting) → is_large_for_one setting ≡ false → (s : Sample) → IsTextWithin s.expected → IsTextWithin (sample_with setting s).expected
expected_within (own.Expected None) small s within = tt
expected_within (own.Expected (Some text)) small s within = not_past expected_limit (length text) small
expected_within (own.Addresses addresses) small s within = within

own_within : (setting : MessageSetting) → is_large_for_one setting ≡ false → (s : Sample) → AreOwnWithin s.addresses → AreOwnWithin (sample_with setting s).addresses
own_within (own.Expected expected) small s within = within
own_within (own.Addresses None) small s within = tt
own_within (own.Addresses (Some addresses)) small s within = let short = addresses_within addresses.from addresses.to small in record { from = short.0; to = short.1 }

-- an edit that is made keeps a content within its limits
limits_kept : (content : Content) (edit : Edit) (new : Content) → IsInOrder content → IsWithinLimits content → after content edit ≡ Ok new → IsWithinLimits new
limits_kept content (put_script name text) new order limits made =
    let is = accepted (script_refusal content.scripts name text) (record content { scripts = with_script name text content.scripts }) new made in
    subst IsWithinLimits is.1 (record { main = limits.main; envelope = limits.envelope; scripts = scripts_put content.scripts order.scripts limits.scripts name text is.0; messages = limits.messages })
limits_kept content (put_message id bytes) new order limits made =
    let is = accepted (message_refusal content.messages id bytes) (record content { messages = with_message id bytes content.messages }) new made in
    subst IsWithinLimits is.1 (record { main = limits.main; envelope = limits.envelope; scripts = limits.scripts; messages = messages_put content.messages limits.messages id bytes is.0 })
limits_kept content (rename_script from to) new order limits made =
    let is = accepted (rename_refusal content.scripts from to) (record content { scripts = with_renamed from (text_at content.scripts from) to content.scripts }) new made in
    subst IsWithinLimits is.1
    (record { main = limits.main; envelope = limits.envelope; scripts = scripts_renamed content.scripts order.scripts limits.scripts from to is.0 (text_at content.scripts from) refl; messages = limits.messages })
limits_kept content (remove_script name) new order limits made =
    let is = accepted (remove_script_refusal content.scripts name) (record content { scripts = without_script name content.scripts }) new made in
    subst IsWithinLimits is.1 (record { main = limits.main; envelope = limits.envelope; scripts = scripts_removed content.scripts order.scripts limits.scripts name; messages = limits.messages })
limits_kept content (remove_message id) new order limits made =
    let is = accepted (absent_refusal content.messages id) (record content { messages = without_message id content.messages }) new made in
    subst IsWithinLimits is.1 (record { main = limits.main; envelope = limits.envelope; scripts = limits.scripts; messages = messages_removed content.messages limits.messages id })
limits_kept content (set_for_all setting) new order limits made =
    let is = accepted (setting_refusal setting) (record content { main = main_with setting content.main; envelope = envelope_with setting content.envelope }) new made in
    let small = one_passes (is_large setting) TooLarge is.0 in
    subst IsWithinLimits is.1 (record { main = main_within setting content.main limits.main small; envelope = envelope_within setting content.envelope limits.envelope small; scripts = limits.scripts; messages = limits.messages })
limits_kept content (set_for_one id setting) new order limits made =
    let is = accepted (one_refusal content.messages id setting) (record content { messages = changed id (sample_with setting) content.messages }) new made in
    let small = found_passes (is_long_id id) (is_large_for_one setting) (is_none (message_at content.messages id)) is.0 in
    subst IsWithinLimits is.1 (record {
      main = limits.main;
      envelope = limits.envelope;
      scripts = limits.scripts;
      messages = messages_changed content.messages limits.messages id (sample_with setting) (octets_within setting) (expected_within setting small) (own_within setting small);
    })

-- EDITS IN TURN

limits_stay : (content : Content) (edit : Edit) → IsInOrder content → IsWithinLimits content → IsWithinLimits (made_or_old content (after content edit))
limits_stay content edit order limits = by (after content edit) refl
  where
    by : (made : Result Content EditFault) → after content edit ≡ made → IsWithinLimits (made_or_old content made)
    by (Ok new) is = limits_kept content edit new order limits is
    by (Err fault) is = limits

pub stays_within : (content : Content) (edits : List Edit) → IsInOrder content → IsWithinLimits content → IsWithinLimits (content_after content edits)
unfolding content_after
stays_within content [] order limits = limits
stays_within content (edit ∷ edits) order limits = stays_within (made_or_old content (after content edit)) edits (order_stays content edit order) (limits_stay content edit order limits)

-- A NEW BENCH

pub new_within : (profile : Profile) → IsWithinLimits (new_content profile)
new_within profile = record {
  main = tt;
  envelope = record { from = omega arith; to = omega arith; mailbox = omega arith; mailboxes = omega arith };
  scripts = record { count = omega arith; names = All-nil (λ n. length n.name ≤ name_limit); texts = All-nil (λ t. length t ≤ text_limit) };
  messages = record {
    count = omega arith;
    ids = All-nil (λ i. length i ≤ id_limit);
    octets = All-nil (λ s. length s.octets ≤ message_limit);
    expected = All-nil (λ s. IsTextWithin s.expected);
    addresses = All-nil (λ s. AreOwnWithin s.addresses);
  };
}
