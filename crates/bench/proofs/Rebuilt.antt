-- A content that is in order and within its limits is made anew by putting all that it has.
use Rattle.std.proofs.Common.{◌≡◌, ℕ, ◌<◌, ◌≤◌, Bool, true, false, ◌&&◌, ◌||◌, if◌then◌else◌, List, [], ◌∷◌, ◌++◌, length, map, fold, Option, None, Some, IfSome, is_none, Result, Ok, Err, nat_eq, nat_le, nat_lt, append_assoc, append-nil, length-append, refl, sym, ap, subst, ◌∙◌, arith}
use Rattle.std.proofs.lemmas.Bool.Decides.{nat_tests}
use Rattle.std.proofs.lemmas.List.Elements.{All-head, All-tail}
use Rattle.std.proofs.lemmas.List.Sums.{fold-append}
use Rattle.std.specs.List.{All, AllByRecursion, IsDistinct, flat_map}
use Rattle.std.specs.List.Sorted.{IsStrictlySortedBy}
use Rattle.std.specs.Map.{keys_of, values_of}
use Rattle.std.specs.Ordering.{match_ordering}
use Rattle.std.specs.declared.cmp.Ordering.TheVariants.{Less, Greater}
use lib.Pointwise.{pointwise}
use Rattle.indexmap.specs.IndexMap as ordered
use Rattle.sieve_limits.specs.Limits.{address_limit, expected_limit, id_limit, mailbox_limit, mailboxes_limit, message_count_limit, message_limit, name_limit, script_count_limit, text_limit}
use Rattle.script_names.specs.Name.{name_cmp}
use Rattle.script_names.specs.declared.name.ScriptName.{ScriptName}
use Rattle.sieve_delivery.specs.declared.envelope.Addresses.{Addresses}
use Rattle.bench.specs.Content.{Content, Edit, Sample, after, new_content, put_script, put_message, unless, text_at, message_at, put_over, with_script, with_message, changed, are_long, is_long, is_long_id, script_refusal, message_refusal, set_for_all, set_for_one, sample_with, is_large, is_large_for_one, main_with, envelope_with}
use Rattle.bench.specs.Edits.{IsInOrder, IsWithinLimits, AreAddressesWithin, AreOrdered, AreDistinctIds, made_or_old, content_after, message_edits, rebuild, envelope_edits}
use Rattle.bench.specs.Test.{after_all, then_edit}
use Rattle.sieve_profile.specs.Profile.{Profile}
use Rattle.bench.specs.declared.fault.EditFault.{EditFault}
use Rattle.bench.specs.declared.setting.MessageSetting.{MessageSetting}
use Rattle.bench.specs.declared.setting.MessageSetting.TheVariants as own
use Rattle.bench.specs.declared.setting.Setting.{Setting}
use Rattle.bench.specs.declared.setting.Setting.TheVariants as common
use Rattle.bench.specs.declared.fault.EditFault.TheVariants.{TooLarge, Full, NoSuchMessage}
use Rattle.bench.proofs.Jobs.{refusal_stays}
use Rattle.bench.proofs.Names.{other_id, same_id}
use Rattle.bench.proofs.Kept.{above, name_total, new_in_order, profile_stays, stays_in_order}
use Rattle.bench.proofs.Within.{new_within, stays_within}

-- EDITS IN TURN

-- a refused edit leaves the content as it was
pub passed_over : (content : Content) (edit : Edit) (edits : List Edit) (fault : EditFault) → after content edit ≡ Err fault → content_after content (edit ∷ edits) ≡ content_after content edits
unfolding content_after
passed_over content edit edits fault refused = ap (λ made. content_after (made_or_old content made) edits) refused

-- where none of some edits is refused, the content after them is what they make
pub all_made : (content : Content) (edits : List Edit) (new : Content) → after_all content edits ≡ Ok new → content_after content edits ≡ new
unfolding content_after
all_made content [] new made = cc
all_made content (edit ∷ edits) new made = by (after content edit) (λ next. all_made next edits new) made
  where
    by : (one : Result Content EditFault) → ((next : Content) → after_all next edits ≡ Ok new → content_after next edits ≡ new) → fold then_edit one edits ≡ Ok new → content_after (made_or_old content one) edits ≡ new
    by (Ok next) rest all = rest next all
    by (Err fault) rest all = let stays = refusal_stays fault edits in absurd cc

within_limit : (limit n : ℕ) → n ≤ limit → nat_lt limit n ≡ false
within_limit limit n within = grind (arith, nat_tests)

neither : (a b : Bool) → a ≡ false → b ≡ false → (a || b) ≡ false
neither true b is other = absurd cc
neither false b is other = other

has_room : (limit n : ℕ) → n < limit → nat_le limit n ≡ false
has_room limit n below = grind (arith, nat_tests)

put_refused_by : (long large fresh full : Bool) → long ≡ false → large ≡ false → full ≡ false → (if long || large then Some TooLarge else if fresh && full then Some Full else None) ≡ None
put_refused_by true large fresh full short small room = absurd cc
put_refused_by false true fresh full short small room = absurd cc
put_refused_by false false true true short small room = absurd cc
put_refused_by false false true false short small room = refl
put_refused_by false false false full short small room = refl

-- SCRIPTS IN THEIR ORDER

-- the names before a script are below its name
names_before : (done : List (ScriptName × List ℕ)) (script : ScriptName × List ℕ) (rest : List (ScriptName × List ℕ)) → AreOrdered (done ++ script ∷ rest) → AllByRecursion (λ name. name_cmp script.0 name ≡ Greater) (keys_of done)
unfolding IsStrictlySortedBy
names_before [] script rest order = tt
names_before (first ∷ done) script rest order = (above name_total first.0 script.0 (at done order.0), names_before done script rest order.1)
  where
    at : (done : List (ScriptName × List ℕ)) → AllByRecursion (λ name. name_cmp first.0 name ≡ Less) (keys_of (done ++ script ∷ rest)) → name_cmp first.0 script.0 ≡ Less
    at [] all = all.0
    at (one ∷ done) all = at done all.1

-- a script whose name is above all is put last
put_last : (name : ScriptName) (text : List ℕ) (scripts : List (ScriptName × List ℕ)) → AllByRecursion (λ other. name_cmp name other ≡ Greater) (keys_of scripts) → with_script name text scripts ≡ scripts ++ (name, text) ∷ []
put_last name text [] below = refl
put_last name text (e ∷ scripts) below =
    ap (λ r. match_ordering r ((name, text) ∷ e ∷ scripts) ((e.0, text) ∷ scripts) (e ∷ with_script name text scripts)) below.0 ∙ ap (λ l. e ∷ l) (put_last name text scripts below.1)

-- putting scripts in their order puts each after those before it
scripts_again : (content : Content) (done rest : List (ScriptName × List ℕ)) → AreOrdered (done ++ rest) → length (done ++ rest) ≤ script_count_limit
    → All (λ name. length name.name ≤ name_limit) (keys_of rest) → All (λ text. length text ≤ text_limit) (values_of rest)
    → after_all (record content { scripts = done }) (map (λ script. put_script script.0 script.1) rest) ≡ Ok (record content { scripts = done ++ rest })
scripts_again content done [] order few names texts = ap (λ scripts. Ok (record content { scripts = scripts })) (sym (append-nil done))
scripts_again content done (script ∷ rest) order few names texts =
    ap (λ made. fold then_edit made (map (λ s. put_script s.0 s.1) rest)) first
    ∙ scripts_again content (done ++ script ∷ []) rest (subst AreOrdered (sym again) order) (subst (λ scripts. length scripts ≤ script_count_limit) (sym again) few)
    (All-tail (λ name. length name.name ≤ name_limit) script.0 (keys_of rest) names) (All-tail (λ text. length text ≤ text_limit) script.1 (values_of rest) texts)
    ∙ ap (λ scripts. Ok (record content { scripts = scripts })) again
  where
    again : (done ++ script ∷ []) ++ rest ≡ done ++ script ∷ rest
    again = append_assoc done (script ∷ []) rest

    fits : length done < script_count_limit
    fits = let all = length-append done (script ∷ rest) in omega arith

    none : script_refusal done script.0 script.1 ≡ None
    none =
        put_refused_by (is_long script.0.name) (nat_lt text_limit (length script.1)) (is_none (text_at done script.0)) (nat_le script_count_limit (length done))
        (within_limit name_limit (length script.0.name) (All-head (λ name. length name.name ≤ name_limit) script.0 (keys_of rest) names))
        (within_limit text_limit (length script.1) (All-head (λ text. length text ≤ text_limit) script.1 (values_of rest) texts))
        (has_room script_count_limit (length done) fits)

    first : after (record content { scripts = done }) (put_script script.0 script.1) ≡ Ok (record content { scripts = done ++ script ∷ [] })
    first =
        ap (λ refusal. unless refusal (record content { scripts = with_script script.0 script.1 done })) none
        ∙ ap (λ scripts. Ok (record content { scripts = scripts })) (put_last script.0 script.1 done (names_before done script rest order))

-- MESSAGES IN THEIR ORDER

-- the ids before a message are others than its id
ids_before : (done : List (List ℕ × Sample)) (message : List ℕ × Sample) (rest : List (List ℕ × Sample)) → AreDistinctIds (keys_of (done ++ message ∷ rest)) → AllByRecursion (λ id. pointwise nat_eq id message.0 ≡ false) (keys_of done)
unfolding IsDistinct
ids_before [] message rest distinct = tt
ids_before (first ∷ done) message rest distinct = (at done distinct.0, ids_before done message rest distinct.1)
  where
    at : (done : List (List ℕ × Sample)) → AllByRecursion (λ id. pointwise nat_eq first.0 id ≡ false) (keys_of (done ++ message ∷ rest)) → pointwise nat_eq first.0 message.0 ≡ false
    at [] all = all.0
    at (one ∷ done) all = at done all.1

-- a message of these octets, of which nothing is expected, and which has no addresses of its own
abbrev plain : List ℕ → Sample
plain octets = put_over octets None

-- an id that is none of the messages' ids has no message
none_there : (id : List ℕ) (messages : List (List ℕ × Sample)) → AllByRecursion (λ other. pointwise nat_eq other id ≡ false) (keys_of messages) → message_at messages id ≡ None
none_there id [] apart = refl
none_there id (e ∷ messages) apart = ap (λ b. if b then Some e.1 else message_at messages id) (other_id e.0 id apart.0) ∙ none_there id messages apart.1

-- a message whose id is none of the messages' ids is put last
insert_after : (id : List ℕ) (sample : Sample) (messages : List (List ℕ × Sample)) → AllByRecursion (λ other. pointwise nat_eq other id ≡ false) (keys_of messages) → ordered.insert_entry (pointwise nat_eq) messages id sample ≡ messages ++ (id, sample) ∷ []
insert_after id sample [] apart = refl
insert_after id sample (e ∷ messages) apart =
    ap (λ b. if b then (e.0, sample) ∷ messages else e ∷ ordered.insert_entry (pointwise nat_eq) messages id sample) (other_id e.0 id apart.0) ∙ ap (λ l. e ∷ l) (insert_after id sample messages apart.1)

put_after : (id bytes : List ℕ) (messages : List (List ℕ × Sample)) → AllByRecursion (λ other. pointwise nat_eq other id ≡ false) (keys_of messages) → with_message id bytes messages ≡ messages ++ (id, plain bytes) ∷ []
put_after id bytes messages apart =
    ap (λ found. ordered.insert_entry (pointwise nat_eq) messages id (put_over bytes found)) (none_there id messages apart)
    ∙ insert_after id (plain bytes) messages apart

-- a message that stands last is there at its id, and is changed there
there_after : (id : List ℕ) (sample : Sample) (messages : List (List ℕ × Sample)) → AllByRecursion (λ other. pointwise nat_eq other id ≡ false) (keys_of messages) → message_at (messages ++ (id, sample) ∷ []) id ≡ Some sample
there_after id sample [] apart = ap (λ b. if b then Some sample else None) (same_id id)
there_after id sample (e ∷ messages) apart = ap (λ b. if b then Some e.1 else message_at (messages ++ (id, sample) ∷ []) id) (other_id e.0 id apart.0) ∙ there_after id sample messages apart.1

changed_last : (id : List ℕ) (change : Sample → Sample) (sample : Sample) (messages : List (List ℕ × Sample)) → AllByRecursion (λ other. pointwise nat_eq other id ≡ false) (keys_of messages)
    → changed id change (messages ++ (id, sample) ∷ []) ≡ messages ++ (id, change sample) ∷ []
changed_last id change sample [] apart = ap (λ b. if b then (id, change sample) ∷ [] else (id, sample) ∷ []) (same_id id)
changed_last id change sample (e ∷ messages) apart =
    ap (λ b. if b then (e.0, change e.1) ∷ messages ++ (id, sample) ∷ [] else e ∷ changed id change (messages ++ (id, sample) ∷ [])) (other_id e.0 id apart.0)
    ∙ ap (λ l. e ∷ l) (changed_last id change sample messages apart.1)

-- an edit of a message that is there isn't refused, where nothing is too large
there_passes : (long large missing : Bool) → long ≡ false → large ≡ false → missing ≡ false → (if long || large then Some TooLarge else if missing then Some NoSuchMessage else None) ≡ None
there_passes true large missing short small there = absurd cc
there_passes false true missing short small there = absurd cc
there_passes false false true short small there = absurd cc
there_passes false false false short small there = refl

-- a setting is made of a message that stands last
one_again : (content : Content) (done : List (List ℕ × Sample)) (id : List ℕ) (sample : Sample) (setting : MessageSetting) → AllByRecursion (λ other. pointwise nat_eq other id ≡ false) (keys_of done)
    → length id ≤ id_limit → is_large_for_one setting ≡ false
    → after (record content { messages = done ++ (id, sample) ∷ [] }) (set_for_one id setting) ≡ Ok (record content { messages = done ++ (id, sample_with setting sample) ∷ [] })
one_again content done id sample setting apart short small =
    ap (λ refusal. unless refusal (record content { messages = changed id (sample_with setting) (done ++ (id, sample) ∷ []) }))
    (there_passes (is_long_id id) (is_large_for_one setting) (is_none (message_at (done ++ (id, sample) ∷ []) id))
    (within_limit id_limit (length id) short) small (ap is_none (there_after id sample done apart)))
    ∙ ap (λ messages. Ok (record content { messages = messages })) (changed_last id (sample_with setting) sample done apart)

-- settings within their limits aren't too large
short_addresses : (addresses : Addresses) → AreAddressesWithin addresses → are_long addresses.from addresses.to ≡ false
short_addresses addresses within =
    neither (nat_lt address_limit (length addresses.from)) (nat_lt address_limit (length addresses.to))
    (within_limit address_limit (length addresses.from) within.from) (within_limit address_limit (length addresses.to) within.to)

short_expected : (expected : Option (List ℕ)) → IfSome expected (λ text. length text ≤ expected_limit) → is_large_for_one (own.Expected expected) ≡ false
short_expected None within = refl
short_expected (Some text) within = within_limit expected_limit (length text) within

short_own : (addresses : Option Addresses) → IfSome addresses AreAddressesWithin → is_large_for_one (own.Addresses addresses) ≡ false
short_own None within = refl
short_own (Some addresses) within = short_addresses addresses within

-- putting messages in their order puts each after those before it
messages_again : (content : Content) (done rest : List (List ℕ × Sample)) → AreDistinctIds (keys_of (done ++ rest)) → length (done ++ rest) ≤ message_count_limit
    → All (λ id. length id ≤ id_limit) (keys_of rest) → All (λ sample. length sample.octets ≤ message_limit) (values_of rest) → All (λ sample. IfSome sample.expected (λ text. length text ≤ expected_limit)) (values_of rest)
    → All (λ sample. IfSome sample.addresses AreAddressesWithin) (values_of rest)
    → after_all (record content { messages = done }) (flat_map message_edits rest) ≡ Ok (record content { messages = done ++ rest })
messages_again content done [] distinct few ids octets texts own_ones = ap (λ messages. Ok (record content { messages = messages })) (sym (append-nil done))
messages_again content done (message ∷ rest) distinct few ids octets texts own_ones =
    fold-append then_edit (Ok (record content { messages = done })) (message_edits message) (flat_map message_edits rest)
    ∙ ap (λ made. fold then_edit made (flat_map message_edits rest)) first
    ∙ messages_again content (done ++ message ∷ []) rest (subst (λ messages. AreDistinctIds (keys_of messages)) (sym again) distinct) (subst (λ messages. length messages ≤ message_count_limit) (sym again) few)
    (All-tail (λ id. length id ≤ id_limit) message.0 (keys_of rest) ids) (All-tail (λ s. length s.octets ≤ message_limit) message.1 (values_of rest) octets)
    (All-tail (λ s. IfSome s.expected (λ text. length text ≤ expected_limit)) message.1 (values_of rest) texts) (All-tail (λ s. IfSome s.addresses AreAddressesWithin) message.1 (values_of rest) own_ones)
    ∙ ap (λ messages. Ok (record content { messages = messages })) again
  where
    again : (done ++ message ∷ []) ++ rest ≡ done ++ message ∷ rest
    again = append_assoc done (message ∷ []) rest

    fits : length done < message_count_limit
    fits = let all = length-append done (message ∷ rest) in omega arith

    apart : AllByRecursion (λ other. pointwise nat_eq other message.0 ≡ false) (keys_of done)
    apart = ids_before done message rest distinct

    short : length message.0 ≤ id_limit
    short = All-head (λ id. length id ≤ id_limit) message.0 (keys_of rest) ids

    none : message_refusal done message.0 message.1.octets ≡ None
    none =
        put_refused_by (is_long_id message.0) (nat_lt message_limit (length message.1.octets)) (is_none (message_at done message.0)) (nat_le message_count_limit (length done))
        (within_limit id_limit (length message.0) short)
        (within_limit message_limit (length message.1.octets) (All-head (λ s. length s.octets ≤ message_limit) message.1 (values_of rest) octets))
        (has_room message_count_limit (length done) fits)

    put : after (record content { messages = done }) (put_message message.0 message.1.octets) ≡ Ok (record content { messages = done ++ (message.0, plain message.1.octets) ∷ [] })
    put =
        ap (λ refusal. unless refusal (record content { messages = with_message message.0 message.1.octets done })) none
        ∙ ap (λ messages. Ok (record content { messages = messages })) (put_after message.0 message.1.octets done apart)

    expects : Edit
    expects = set_for_one message.0 (own.Expected message.1.expected)

    readdresses : Edit
    readdresses = set_for_one message.0 (own.Addresses message.1.addresses)

    awaited : Sample
    awaited = sample_with (own.Expected message.1.expected) (plain message.1.octets)

    first : after_all (record content { messages = done }) (message_edits message) ≡ Ok (record content { messages = done ++ message ∷ [] })
    first =
        ap (λ made. then_edit (then_edit made expects) readdresses) put
        ∙ ap (λ made. then_edit made readdresses)
        (one_again content done message.0 (plain message.1.octets) (own.Expected message.1.expected) apart short
        (short_expected message.1.expected (All-head (λ s. IfSome s.expected (λ text. length text ≤ expected_limit)) message.1 (values_of rest) texts)))
        ∙ one_again content done message.0 awaited (own.Addresses message.1.addresses) apart short
        (short_own message.1.addresses (All-head (λ s. IfSome s.addresses AreAddressesWithin) message.1 (values_of rest) own_ones))

-- SETTINGS

size_passes : (large : Bool) → large ≡ false → (if large then Some TooLarge else None) ≡ None
size_passes true small = absurd cc
size_passes false small = refl

-- a setting that isn't too large is made
abbrev with_setting : Setting → Content → Content
with_setting setting content = record content { main = main_with setting content.main; envelope = envelope_with setting content.envelope }

setting_again : (content : Content) (setting : Setting) → is_large setting ≡ false → after content (set_for_all setting) ≡ Ok (with_setting setting content)
setting_again content setting small = ap (λ refusal. unless refusal (with_setting setting content)) (size_passes (is_large setting) small)

short_main : (main : Option ScriptName) → IfSome main (λ name. length name.name ≤ name_limit) → is_large (common.Main main) ≡ false
short_main None within = refl
short_main (Some name) within = within_limit name_limit (length name.name) within

-- THE WHOLE CONTENT

module _ (content : Content) (order : IsInOrder content) (limits : IsWithinLimits content) where
  -- a new bench's content with the scripts, and then the messages too
  abbrev scripts_there : Content
  scripts_there = record (new_content content.profile) { scripts = content.scripts }

  abbrev messages_there : Content
  messages_there = record scripts_there { messages = content.messages }

  abbrev addresses : Setting
  addresses = common.Addresses (record { from = content.envelope.from; to = content.envelope.to })

  abbrev mailbox : Setting
  mailbox = common.Mailbox content.envelope.mailbox

  abbrev mailboxes : Setting
  mailboxes = common.Mailboxes content.envelope.mailboxes

  abbrev clock : Setting
  clock = common.Clock content.envelope.clock

  abbrev settings : List Edit
  settings = envelope_edits content.envelope ++ set_for_all (common.Main content.main) ∷ []

  set_again : after_all messages_there settings ≡ Ok content
  set_again =
      ap (λ made. then_edit (then_edit (then_edit (then_edit made (set_for_all mailbox)) (set_for_all mailboxes)) (set_for_all clock)) (set_for_all (common.Main content.main)))
      (setting_again messages_there addresses (neither (nat_lt address_limit (length content.envelope.from)) (nat_lt address_limit (length content.envelope.to))
      (within_limit address_limit (length content.envelope.from) limits.envelope.from) (within_limit address_limit (length content.envelope.to) limits.envelope.to)))
      ∙ ap (λ made. then_edit (then_edit (then_edit made (set_for_all mailboxes)) (set_for_all clock)) (set_for_all (common.Main content.main)))
      (setting_again (with_setting addresses messages_there) mailbox (within_limit mailbox_limit (length content.envelope.mailbox) limits.envelope.mailbox))
      ∙ ap (λ made. then_edit (then_edit made (set_for_all clock)) (set_for_all (common.Main content.main)))
      (setting_again (with_setting mailbox (with_setting addresses messages_there)) mailboxes (within_limit mailboxes_limit (length content.envelope.mailboxes) limits.envelope.mailboxes))
      ∙ ap (λ made. then_edit made (set_for_all (common.Main content.main)))
      (setting_again (with_setting mailboxes (with_setting mailbox (with_setting addresses messages_there))) clock refl)
      ∙ setting_again (with_setting clock (with_setting mailboxes (with_setting mailbox (with_setting addresses messages_there)))) (common.Main content.main) (short_main content.main limits.main)

  -- none of the edits that make the content anew is refused, and they make it
  pub made_again : after_all (new_content content.profile) (rebuild content) ≡ Ok content
  unfolding rebuild
  made_again =
      fold-append then_edit (Ok (new_content content.profile)) (map (λ s. put_script s.0 s.1) content.scripts) (flat_map message_edits content.messages ++ settings)
      ∙ ap (λ made. fold then_edit made (flat_map message_edits content.messages ++ settings))
      (scripts_again (new_content content.profile) [] content.scripts order.scripts limits.scripts.count limits.scripts.names limits.scripts.texts)
      ∙ fold-append then_edit (Ok scripts_there) (flat_map message_edits content.messages) settings
      ∙ ap (λ made. fold then_edit made settings)
      (messages_again scripts_there [] content.messages order.ids limits.messages.count limits.messages.ids limits.messages.octets limits.messages.expected limits.messages.addresses)
      ∙ set_again

-- the edits that build anew what edits make of a new bench's content make it again
pub rebuilt : (profile : Profile) (edits : List Edit)
    → after_all (new_content profile) (rebuild (content_after (new_content profile) edits)) ≡ Ok (content_after (new_content profile) edits)
rebuilt profile edits =
    let new = new_content profile in
    let all = content_after new edits in
    ap (λ (p : Profile). after_all (new_content p) (rebuild all)) (sym (profile_stays new edits))
    ∙ made_again all (stays_in_order new edits (new_in_order profile)) (stays_within new edits (new_in_order profile) (new_within profile))

pub rebuilt_content : (profile : Profile) (edits : List Edit)
    → content_after (new_content profile) (rebuild (content_after (new_content profile) edits)) ≡ content_after (new_content profile) edits
rebuilt_content profile edits =
    all_made (new_content profile) (rebuild (content_after (new_content profile) edits)) (content_after (new_content profile) edits) (rebuilt profile edits)
