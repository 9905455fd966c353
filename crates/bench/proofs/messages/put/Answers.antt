use Rattle.std.proofs.Common.{◌≡◌, is_some, nat_eq, rules, true, ◌∙◌}
use Rattle.std.specs.Map.{lookup}
use lib.Pointwise.{pointwise}
use Rattle.bench.specs.Content.{changed}
use Rattle.bench.specs.view.Entry.{renewed}
use Rattle.bench.proofs.Entries.{put_there}
use Rattle.bench.proofs.messages.put.Goals as goal

pub returns-then-contains-clause-ok : goal.returns-then-contains-clause-ok
returns-then-contains-clause-ok c =
    let entries : c.renew.new.messages.entries ≡ changed c.args.id (renewed c.args.message) c.args.messages.now.entries = search rules in
    let there : is_some (lookup (pointwise nat_eq c.args.id) c.args.messages.now.entries) ≡ true = search rules in
    entries ∙ put_there c.args.messages.now.entries c.args.id c.args.message there
