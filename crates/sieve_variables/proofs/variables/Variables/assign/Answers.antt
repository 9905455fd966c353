use Rattle.std.proofs.Common.{ap, is_some, sym, true, false, ◌∙◌}
use Rattle.std.specs.Option.{option_copied_mut}
use Rattle.sieve_variables.proofs.Held.{found_held, set_held}
use Rattle.sieve_variables.proofs.variables.Variables.assign.Goals as goal
use Rattle.sieve_variables.proofs.variables.Variables.assign.Goals.{in-Some, in-None}

pub returns-clause-ok : goal.returns-clause-ok
returns-clause-ok c =
    elim c.match-get_mut.branch [
      | in-Some w ↦
          (let found = sym c.get_mut.ensures.value ∙ ap option_copied_mut w.in-Some.is in
          rw w.result-is (rw w.self-inside-is (set_held c.args.self.now c.self.inside.entries.entries _ c.args.name.now c.args.value _ c.self.view_is found (c.get_mut.follows.holds c.args.value).0)))
      | in-None w ↦ rw w.result-is tt
    ]

pub returns-clause-held : goal.returns-clause-held
returns-clause-held c =
    elim c.match-get_mut.branch [
      | in-Some w ↦
          (let found = sym c.get_mut.ensures.value ∙ ap option_copied_mut w.in-Some.is in
          rw w.result-is (sym (found_held c.args.self.now c.self.inside.entries.entries c.args.name.now true c.self.view_is (sym (ap is_some found)))))
      | in-None w ↦
          (let found = sym c.get_mut.ensures.value ∙ ap option_copied_mut w.in-None.is in
          rw w.result-is (sym (found_held c.args.self.now c.self.inside.entries.entries c.args.name.now false c.self.view_is (sym (ap is_some found)))))
    ]
