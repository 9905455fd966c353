-- The results of the parser's functions, against the meaning of a text.
use Rattle.std.specs.Prelude.{◌≡◌, ℕ, List, map, Option, Some, None, Result, Ok, Err}
use Rattle.sieve_syntax.specs.Machine.{ParserState}
use Rattle.sieve_syntax.specs.view.Reader.{state_value}
use Rattle.sieve_syntax.specs.Tree.{Command}
use Rattle.sieve_syntax.specs.view.Script.{tree_of}
use Rattle.sieve_syntax.specs.view.Tree.{command_as}
use Rattle.sieve_syntax.specs.declared.parser.SyntaxFault.{SyntaxFault}
use Rattle.sieve_syntax.specs.declared.parser.SyntaxFault.TheVariants.{Syntax, TooLarge, NoMemory}
use Rattle.std.specs.declared.alloc.Global.{Global}
use Rattle.std.specs.declared.vec.Vec.{Vec}
use Rattle.sieve_syntax.specs.declared.script.ParsedScript as scripts
use Rattle.sieve_syntax.specs.declared.tree.Command as commands
use Rattle.sieve_syntax.specs.declared.reader.Outer as outers
use Rattle.sieve_syntax.specs.declared.reader.ParserState as states

-- The list of commands is the tree that the text means, or the line is that of its fault.
-- `TooLarge` and `NoMemory` claim nothing. `Parses` is the same for a script that holds the list.
abbrev pub ParsesAs : Result (Vec commands.Command Global) SyntaxFault → Result (List Command) ℕ → Type 0
ParsesAs (Ok v) meaning = meaning ≡ Ok (map command_as v.items)
ParsesAs (Err (Syntax line)) meaning = meaning ≡ Err line
ParsesAs (Err TooLarge) meaning = Unit {0}
ParsesAs (Err NoMemory) meaning = Unit {0}

-- The commands of the script are the tree that the text means, or the line is that of its fault.
-- `TooLarge` and `NoMemory` claim nothing. `ParsesAs` is the same for a list of commands that no
-- script holds yet.
abbrev pub Parses : Result scripts.ParsedScript SyntaxFault → Result (List Command) ℕ → Type 0
Parses (Ok script) meaning = meaning ≡ Ok (tree_of script)
Parses (Err (Syntax line)) meaning = meaning ≡ Err line
Parses (Err TooLarge) meaning = Unit {0}
Parses (Err NoMemory) meaning = Unit {0}

-- The state is the next one, or there is none and the line is the token's.
-- `NoMemory` claims nothing.
abbrev pub Goes : outers.Outer → Result states.ParserState SyntaxFault → Option ParserState → ℕ → Type 0
Goes o (Ok s) next line = next ≡ Some (state_value o s)
Goes o (Err (Syntax at)) next line = (next ≡ None) × (at ≡ line)
Goes o (Err TooLarge) next line = ⊥
Goes o (Err NoMemory) next line = Unit {0}

-- the commands are the whole tree, or there is none and the line is that of the end
abbrev pub Finishes : Result (Vec commands.Command Global) SyntaxFault → Option (List Command) → ℕ → Type 0
Finishes (Ok v) tree line = tree ≡ Some (map command_as v.items)
Finishes (Err (Syntax at)) tree line = (tree ≡ None) × (at ≡ line)
Finishes (Err TooLarge) tree line = ⊥
Finishes (Err NoMemory) tree line = ⊥
