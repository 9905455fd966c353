use Rattle.std.proofs.Common.{rules, ℕ, List, Option}
use Rattle.script_names.specs.declared.name.ScriptName.{ScriptName}
use Rattle.bench.specs.Content.{text_at, with_renamed}
use Rattle.bench.specs.Report.{Site, verdict_by}
use Rattle.bench.specs.view.Site.{site_by, with_scripts}
use Rattle.bench.proofs.Marks.{stale-marked_twice}
use Rattle.bench.proofs.Names.{copied_to, text-copied, text-renamed}
use Rattle.bench.proofs.Trying.{named_there}
use Rattle.bench.proofs.bench.Bench.rename_script.Goals as goal

pub rename-requires : goal.rename-requires
rename-requires c = named_there c.self.inside.scripts.scripts c.args.from.now c.args.to c.in_ok-refuse_rename.ensures

pub invariant_of-self : goal.invariant_of-self
invariant_of-self c = (rw (c.in_err-rename.ensures.err, c.in_err-rename.ensures.unmarked) c.self.invariant.0, rw c.in_err-rename.ensures.unmarked c.self.invariant.1)

pub invariant_of-self-2 : goal.invariant_of-self-2
invariant_of-self-2 c =
    let scripts : List (ScriptName × List ℕ) = c.self.inside.scripts.scripts in
    let site : Site = site_by c.self.inside.main c.self.inside.envelope c.self.inside.scripts in
    let found : Option (List ℕ) = text_at scripts c.args.from.now in
    let both : List (ScriptName × List ℕ) = copied_to c.args.to found scripts in (
      rw c.in_ok-rename.ensures.ok
          (c.forget_readers.ensures.forgotten.due (with_scripts site both) (with_renamed c.args.from.now found c.args.to scripts)
          (λ other apart. text-renamed c.args.from.now found c.args.to other scripts apart)
          (c.in_ok-rename.ensures.forgotten.due site both (λ other apart. text-copied c.args.to found other scripts apart) c.self.invariant.0)),
      c.forget_readers.ensures.forgotten.ids,
    )

pub returns : goal.returns
returns c = (
  (
    rw (c.in_ok-rename.ensures.ok, c.forget_readers.ensures.forgotten.messages, c.in_ok-rename.ensures.forgotten.messages) (search rules),
    rw (← c.self.view_is, c.forget_readers.ensures.forgotten.entries, c.in_ok-rename.ensures.forgotten.entries)
        (stale-marked_twice (verdict_by (site_by c.self.inside.main c.self.inside.envelope c.self.inside.scripts)) c.args.from.now c.args.to c.self.inside.messages.entries c.self.invariant.0 c.self.invariant.1),
  ),
  tt,
  search rules,
)
