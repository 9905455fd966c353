-- Commands whose strings name a mailbox or an address, or none.
use Rattle.std.proofs.Common.{◌≡◌, ℕ, Bool, true, false, ◌&&◌, List, Some, None, refl, sym, ap, ◌∙◌}
use Rattle.std.specs.Prelude.{if◌then◌else◌}
use Rattle.message_text.specs.Addresses.{addresses_of}
use Rattle.sieve_delivery.specs.Delivery.{Delivery}
use Rattle.sieve_delivery.specs.Ending.{Ending}
use Rattle.sieve_delivery.specs.Performing.{deed_of, fails_at, performs}
use Rattle.sieve_delivery.specs.Sending.{only_address, redirects, sends}
use Rattle.sieve_delivery.specs.Storing.{files_into, filing_of, is_mailbox, may_be_used, store_deed}
use Rattle.sieve_delivery.specs.State.{RunState}
use Rattle.sieve_delivery.specs.declared.action.Action.TheVariants.{Redirect}
use Rattle.sieve_delivery.specs.declared.error.ErrorKind.TheVariants.{BadAddress, BadMailbox}
use Rattle.sieve_delivery.specs.view.Acting.{mailbox_named}
use Rattle.sieve_script.specs.Reading.{Settings}
use Rattle.sieve_variables.specs.Part.{Part}
use Rattle.sieve_variables.specs.Value.{text_value}

module _ (delivery : Delivery) (line : ℕ) (state : RunState) where
  -- A store is performed if its mailbox and its use are named. Otherwise the command fails.
  module _ (mailbox : List Part) (settings : Settings) where
    abbrev name : List ℕ
    name = text_value state.values mailbox

    abbrev by_test : Bool → Bool → Ending
    by_test named used = if named && used then performs delivery line (store_deed state name settings) state else fails_at delivery line BadMailbox state

    pub files_there : (other : List ℕ) (ending : Ending) → Some other ≡ mailbox_named state.values mailbox → may_be_used (filing_of state.values settings).special_use ≡ true
        → ending ≡ performs delivery line (store_deed state other settings) state → ending ≡ files_into delivery mailbox settings line state
    files_there other ending is used does = by (is_mailbox name) is ∙ ap (by_test (is_mailbox name)) (sym used)
      where
        one_of : (a b : List ℕ) → Some a ≡ Some b → a ≡ b
        one_of a b e = cc

        by : (named : Bool) → Some other ≡ (if named then Some name else None) → ending ≡ by_test named true
        by true is = does ∙ ap (λ o. performs delivery line (store_deed state o settings) state) (one_of other name is)
        by false is = cc

    pub files_unused : may_be_used (filing_of state.values settings).special_use ≡ false → fails_at delivery line BadMailbox state ≡ files_into delivery mailbox settings line state
    files_unused unused = by (is_mailbox name) ∙ ap (by_test (is_mailbox name)) (sym unused)
      where
        by : (named : Bool) → fails_at delivery line BadMailbox state ≡ by_test named false
        by true = refl
        by false = refl

    pub files_nowhere : None ≡ mailbox_named state.values mailbox → fails_at delivery line BadMailbox state ≡ files_into delivery mailbox settings line state
    files_nowhere is = by (is_mailbox name) is
      where
        by : (named : Bool) → None ≡ (if named then Some name else None) → fails_at delivery line BadMailbox state ≡ by_test named (may_be_used (filing_of state.values settings).special_use)
        by true is = cc
        by false is = refl

  pub sends_to : (address : List Part) (copy : Bool) (octets : List ℕ) (ending : Ending) → Some octets ≡ only_address (addresses_of (text_value state.values address)) → ending ≡ performs delivery line (deed_of (Redirect octets) copy) state → ending ≡ sends delivery address copy line state
  sends_to address copy octets ending is does = does ∙ ap (λ o. redirects delivery line o copy state) is

  pub sends_nowhere : (address : List Part) (copy : Bool) → None ≡ only_address (addresses_of (text_value state.values address)) → fails_at delivery line BadAddress state ≡ sends delivery address copy line state
  sends_nowhere address copy is = ap (λ o. redirects delivery line o copy state) is

pub ruleset filing = (files_there, files_unused, files_nowhere)

pub ruleset sending = (sends_to, sends_nowhere)
