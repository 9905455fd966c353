-- The machine over the tokens of a text, one after another.
use Rattle.std.proofs.Common.{◌≡◌, ℕ, List, [], ◌∷◌, length, Option, Some, None, Result, Ok, Err, sym, ap, ◌∙◌}
use Rattle.sieve_syntax.specs.view.Cursor.{IsNext}
use Rattle.sieve_syntax.specs.Machine.{ParserState, step, start, whole, read}
use Rattle.sieve_syntax.specs.view.Parsed.{Finishes, Goes, ParsesAs}
use Rattle.sieve_syntax.specs.Scan.{tokens_of}
use Rattle.sieve_limits.specs.Limits.{test_depth, block_room}
use Rattle.sieve_syntax.specs.Syntax.{syntax_of}
use Rattle.sieve_syntax.specs.Token.{line_at, SpellsFrom}
use Rattle.sieve_syntax.specs.Tree.{Command}
use Rattle.sieve_syntax.specs.Symbol.{symbol_of}
use Rattle.sieve_syntax.specs.declared.cursor.Cursor.{Cursor}
use Rattle.sieve_syntax.specs.declared.parser.SyntaxFault.{SyntaxFault}
use Rattle.sieve_syntax.specs.declared.parser.SyntaxFault.TheVariants.{Syntax, TooLarge, NoMemory}
use Rattle.sieve_syntax.specs.declared.token.Token.{Token}
use Rattle.sieve_syntax.specs.declared.reader.Outer as outers
use Rattle.std.specs.declared.alloc.Global.{Global}
use Rattle.std.specs.declared.vec.Vec.{Vec}
use Rattle.sieve_syntax.specs.declared.tree.Command as command_views
use Rattle.sieve_syntax.proofs.Spelling.{tokens_of_spell, some_tokens, unique}

-- from this state, any tokens that spell the rest of the text give the meaning of the text
abbrev pub Means : List ℕ → ParserState → ℕ → Type 0
Means text s place = (more : List Token) → SpellsFrom text place more → read test_depth block_room text s more ≡ syntax_of text

pub start_means : (text : List ℕ) → Means text start 0
unfolding syntax_of
start_means text more h = ap (read test_depth block_room text start) (unique text more (tokens_of text) h (tokens_of_spell text))

read-next : (text : List ℕ) (s next : ParserState) (token : Token) (more : List Token) → step test_depth block_room s (symbol_of text token) ≡ Some next → read test_depth block_room text s (token ∷ more) ≡ read test_depth block_room text next more
unfolding read
read-next text s next token more e = ap (λ o. elim o as (λ z. Result (List Command) ℕ) [ Some n ↦ read test_depth block_room text n more | None ↦ Err token.line ]) e

read-stop : (text : List ℕ) (s : ParserState) (token : Token) (more : List Token) → step test_depth block_room s (symbol_of text token) ≡ None → read test_depth block_room text s (token ∷ more) ≡ Err token.line
unfolding read
read-stop text s token more e = ap (λ o. elim o as (λ z. Result (List Command) ℕ) [ Some n ↦ read test_depth block_room text n more | None ↦ Err token.line ]) e

read-end : (text : List ℕ) (s : ParserState) (o : Option (List Command)) → whole s ≡ o → read test_depth block_room text s [] ≡ elim o as (λ z. Result (List Command) ℕ) [ Some tree ↦ Ok tree | None ↦ Err (line_at text (length text)) ]
unfolding read
read-end text s o e = ap (λ x. elim x as (λ z. Result (List Command) ℕ) [ Some tree ↦ Ok tree | None ↦ Err (line_at text (length text)) ]) e

-- after a token that the state takes, the next state gives the meaning of the text
pub next_means : (text : List ℕ) (s next : ParserState) (place : ℕ) (token : Token) (after : Cursor) → IsNext text place token after → step test_depth block_room s (symbol_of text token) ≡ Some next → Means text s place → Means text next after.place
next_means text s next place token after is e so more h = sym (read-next text s next token more e) ∙ so (token ∷ more) (is.goes more h)

-- the line of a token that the state doesn't take is that of the text's fault
pub stop_means : (text : List ℕ) (s : ParserState) (place : ℕ) (token : Token) (after : Cursor) (fault : SyntaxFault) (o : outers.Outer) → IsNext text place token after → Goes o (Err fault) (step test_depth block_room s (symbol_of text token)) token.line → Means text s place → ParsesAs (Err fault) (syntax_of text)
stop_means text s place token after (Syntax line) o is h so =
    let more = some_tokens text after.place is.is.within in
    sym (so (token ∷ more.0) (is.goes more.0 more.1)) ∙ read-stop text s token more.0 h.0 ∙ ap (λ n. Err n) (sym h.1)
stop_means text s place token after TooLarge o is h so = absurd h
stop_means text s place token after NoMemory o is h so = tt

-- a token is never refused as a text that is too large
pub goes_small : (o : outers.Outer) (fault : SyntaxFault) (next : Option ParserState) (line : ℕ) → Goes o (Err fault) next line → fault ≡ TooLarge → ⊥
goes_small o (Syntax at) next line h e = cc
goes_small o TooLarge next line h e = absurd h
goes_small o NoMemory next line h e = cc

-- at the end of the text, the state gives the meaning of the text
pub end_means : (text : List ℕ) (s : ParserState) (place : ℕ) (r : Result (Vec command_views.Command Global) SyntaxFault) → SpellsFrom text place [] → Means text s place → Finishes r (whole s) (line_at text (length text)) → ParsesAs r (syntax_of text)
end_means text s place (Ok script) h so e = sym (so [] h) ∙ read-end text s _ e
end_means text s place (Err (Syntax line)) h so e = sym (so [] h) ∙ read-end text s None e.0 ∙ ap (λ n. Err n) (sym e.1)
end_means text s place (Err TooLarge) h so e = absurd e
end_means text s place (Err NoMemory) h so e = absurd e

-- the end of a text is never refused as a text that is too large
pub finishes_small : (r : Result (Vec command_views.Command Global) SyntaxFault) (tree : Option (List Command)) (line : ℕ) → Finishes r tree line → r ≡ Err TooLarge → ⊥
finishes_small (Ok script) tree line h e = cc
finishes_small (Err (Syntax at)) tree line h e = cc
finishes_small (Err TooLarge) tree line h e = absurd h
finishes_small (Err NoMemory) tree line h e = absurd h
