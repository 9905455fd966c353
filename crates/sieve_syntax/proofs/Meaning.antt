-- The laws of `syntax_of`.
use Rattle.std.proofs.Common.{◌≡◌, ℕ, ◌⊎◌, inl, inr, List, Result, Ok, Err, ap, ◌∙◌, subst}
use Rattle.sieve_syntax.specs.Tree.{Command}
use Rattle.sieve_syntax.specs.view.Parsed.{Parses, ParsesAs}
use Rattle.sieve_syntax.specs.declared.script.ParsedScript as scripts
use Rattle.sieve_syntax.specs.declared.parser.SyntaxFault.{SyntaxFault}
use Rattle.sieve_syntax.specs.declared.parser.SyntaxFault.TheVariants.{Syntax, TooLarge, NoMemory}
use Rattle.sieve_syntax.specs.Scan.{tokens_of}
use Rattle.sieve_syntax.specs.Machine.{start, read}
use Rattle.sieve_limits.specs.Limits.{test_depth, block_room}
use Rattle.sieve_syntax.specs.Syntax.{IsFaultAt, IsFaultAtEnd, WritesText, IsFaultLine, syntax_of}
use Rattle.sieve_syntax.proofs.Spelling.{tokens_of_spell, unique}
use Rattle.sieve_syntax.proofs.Parsing.{IsRead, read_is, read_ok, read_stops, read_stops_at_end}

pub ok_writes : (text : List ℕ) (tree : List Command) → syntax_of text ≡ Ok tree → WritesText tree text
unfolding syntax_of
ok_writes text tree e =
    record { tokens = tokens_of text; spelled = tokens_of_spell text; written = subst (IsRead test_depth block_room text (tokens_of text)) e (read_is test_depth block_room text (tokens_of text)) }

pub writes_ok : (text : List ℕ) (tree : List Command) → WritesText tree text → syntax_of text ≡ Ok tree
unfolding syntax_of
writes_ok text tree h =
    ap (read test_depth block_room text start) (unique text (tokens_of text) h.tokens (tokens_of_spell text) h.spelled)
    ∙ read_ok test_depth block_room text h.tokens tree h.written

pub err_faults : (text : List ℕ) (line : ℕ) → syntax_of text ≡ Err line → IsFaultLine text line
unfolding syntax_of
err_faults text line e =
    record { tokens = tokens_of text; spelled = tokens_of_spell text; fault = subst (IsRead test_depth block_room text (tokens_of text)) e (read_is test_depth block_room text (tokens_of text)) }

pub faults_err : (text : List ℕ) (line : ℕ) → IsFaultLine text line → syntax_of text ≡ Err line
unfolding syntax_of
faults_err text line h =
    ap (read test_depth block_room text start) (unique text (tokens_of text) h.tokens (tokens_of_spell text) h.spelled) ∙ go h.fault
  where
    go : IsFaultAt test_depth block_room text h.tokens line ⊎ IsFaultAtEnd test_depth block_room text h.tokens line → read test_depth block_room text start h.tokens ≡ Err line
    go (inl f) = read_stops test_depth block_room text h.tokens line f
    go (inr f) = read_stops_at_end test_depth block_room text h.tokens line f

-- no tree writes a text that has a fault
pub fault_alone : (text : List ℕ) (line : ℕ) (tree : List Command) → IsFaultLine text line → WritesText tree text → ⊥
fault_alone text line tree f w =
    let p = faults_err text line f in
    let q = writes_ok text tree w in
    cc

-- at most one tree writes a text
pub one_tree : (text : List ℕ) (a b : List Command) → WritesText a text → WritesText b text → a ≡ b
one_tree text a b h k =
    let p = writes_ok text a h in
    let q = writes_ok text b k in
    cc

-- THE RESULT OF THE PARSER

pub same_fault : (fault : SyntaxFault) (meaning : Result (List Command) ℕ) → ParsesAs (Err fault) meaning → Parses (Err fault) meaning
same_fault (Syntax line) meaning h = h
same_fault TooLarge meaning h = tt
same_fault NoMemory meaning h = tt

pub parses_fault : (r : Result scripts.ParsedScript SyntaxFault) (text : List ℕ) → Parses r (syntax_of text) → (line : ℕ) → r ≡ Err (Syntax line) → IsFaultLine text line × ((tree : List Command) → WritesText tree text → ⊥)
parses_fault (Ok script) text h line e = cc
parses_fault (Err TooLarge) text h line e = cc
parses_fault (Err NoMemory) text h line e = cc
parses_fault (Err (Syntax at)) text h line e =
    let same : at ≡ line = cc in
    let fault : IsFaultLine text line = subst (IsFaultLine text) same (err_faults text at h) in
    (fault, λ tree. fault_alone text line tree fault)
