use Rattle.std.proofs.Common.{subst}
use Rattle.std.specs.Option.{option_map}
use Rattle.packed_strings.specs.Joined.{list_in}
use Rattle.sieve_script.specs.Reading.{Vacation, flag_leaf, keep_leaf, redirect_leaf, reject_leaf, set_leaf, vacation_leaf}
use Rattle.sieve_script.specs.view.Reading.{vacation_as}
use Rattle.sieve_code.specs.Pool.{Kept, Pool, given_list, string_in, vacation_in}
use Rattle.sieve_code.specs.view.Pools.{pool_as}
use Rattle.sieve_code.proofs.Keeping.{kept_as, kept_still}
use Rattle.sieve_code.proofs.pools.Pools.pack_leaf.Goals as goal

pub returns-in_ok-flags-in-Keep : goal.returns-in_ok-flags-in-Keep
returns-in_ok-flags-in-Keep c =
    rw c.in-Keep.is (kept_as keep_leaf _ _ (λ (p : Pool). given_list p c.in_ok-flags-in-Keep.flags) (option_map (λ given. given.items) c.in-Keep.flags) c.in_ok-flags-in-Keep.ensures)

pub returns-in_ok-address-in-Redirect : goal.returns-in_ok-address-in-Redirect
returns-in_ok-address-in-Redirect c =
    rw c.in-Redirect.is (kept_as (λ a. redirect_leaf a c.in-Redirect.copy) _ _ (λ (p : Pool). string_in p c.in_ok-address-in-Redirect.address) c.in-Redirect.address c.in_ok-address-in-Redirect.ensures)

pub returns-in-Discard : goal.returns-in-Discard
returns-in-Discard c = rw c.in-Discard.is (kept_still _ _)

pub returns-in_ok-value-in-Set : goal.returns-in_ok-value-in-Set
returns-in_ok-value-in-Set c =
    rw c.in-Set.is (kept_as (set_leaf c.in-Set.variable c.in-Set.modifiers) _ _ (λ (p : Pool). string_in p c.in_ok-value-in-Set.value) c.in-Set.value c.in_ok-value-in-Set.ensures)

pub returns-in_ok-flags-in-Flags : goal.returns-in_ok-flags-in-Flags
returns-in_ok-flags-in-Flags c =
    rw c.in-Flags.is (kept_as (flag_leaf c.in-Flags.change c.in-Flags.variable) _ _ (λ (p : Pool). list_in p.lists c.in_ok-flags-in-Flags.flags) c.in-Flags.flags.items c.in_ok-flags-in-Flags.ensures)

pub returns-in-Include : goal.returns-in-Include
returns-in-Include c = rw c.in-Include.is (kept_still _ _)

pub returns-in_ok-vacation-in-Vacation-2 : goal.returns-in_ok-vacation-in-Vacation-2
returns-in_ok-vacation-in-Vacation-2 c =
    let packed : Pool → Vacation = λ p. vacation_in p c.in_ok-vacation-in-Vacation.vacation in
    let kept = subst (λ v. Kept (pool_as c.args.self.now) (pool_as c.add_vacation.new.self) packed (vacation_as v)) c.into_inner.ensures c.in_ok-vacation-in-Vacation.ensures in
    rw c.in-Vacation.is (rw c.in_ok-vacation-in-Vacation-2.ensures.ok (kept_as vacation_leaf _ _ packed (vacation_as c.in-Vacation.vacation.value) kept))

pub returns-in_ok-reason-in-Reject : goal.returns-in_ok-reason-in-Reject
returns-in_ok-reason-in-Reject c =
    rw c.in-Reject.is (kept_as (reject_leaf c.in-Reject.how) _ _ (λ (p : Pool). string_in p c.in_ok-reason-in-Reject.reason) c.in-Reject.reason c.in_ok-reason-in-Reject.ensures)
