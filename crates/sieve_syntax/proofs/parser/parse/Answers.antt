use Rattle.std.proofs.Common.{Err, map}
use Rattle.sieve_syntax.proofs.Meaning.{ok_writes, parses_fault, same_fault}
use Rattle.sieve_syntax.specs.Syntax.{syntax_of}
use Rattle.sieve_syntax.specs.view.Tree.{command_as}
use Rattle.sieve_syntax.proofs.parser.parse.Goals as goal

pub returns-in-Ok-clause-tree : goal.returns-in-Ok-clause-tree
returns-in-Ok-clause-tree c = ok_writes c.args.text.now (map command_as c.in-Ok.commands.items) c.in-Ok.ensures.exact

pub returns-in-Err-clause-fault : goal.returns-in-Err-clause-fault
returns-in-Err-clause-fault c =
    parses_fault (Err c.in-Err.fault) c.args.text.now (same_fault c.in-Err.fault (syntax_of c.args.text.now) c.in-Err.ensures.exact)

pub returns-in-Err-clause-exact : goal.returns-in-Err-clause-exact
returns-in-Err-clause-exact c = same_fault c.in-Err.fault (syntax_of c.args.text.now) c.in-Err.ensures.exact
