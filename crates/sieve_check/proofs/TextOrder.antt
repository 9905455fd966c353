-- The elements of a script stand in the order of its text.
use Rattle.std.proofs.Common.{◌≡◌, ℕ, zero, suc, ◌+◌, ◌-◌, ◌<◌, ◌≤◌, ◌⊎◌, Bool, true, false, cond, List, [], ◌∷◌, map, length, get_or, take, drop, inl, inr, refl, sym, ap, ◌∙◌, subst, le_refl, le_trans, le_of_suc-le-suc, suc-le-suc, zero-le, not-suc-le-zero, arith}
use Rattle.std.proofs.lemmas.List.{take-take}
use Rattle.std.proofs.lemmas.List.Elements.{All-cons}
use Rattle.std.proofs.lemmas.List.Sums.{sum_by-take-le}
use Rattle.std.specs.List.{All, filter, flat_map, slice_range}
use Rattle.std.specs.List.Sorted.{IsNonDecreasing}
use Rattle.std.specs.Prelude.{◌==◌, IsTrue}
use Rattle.sieve_limits.specs.Limits.{test_depth, block_room}
use Rattle.octets.specs.Octet.{octet_of}
use Rattle.sieve_syntax.specs.Grammar.{WritesSymbols}
use Rattle.sieve_syntax.specs.Line.{lines_of}
use Rattle.sieve_syntax.specs.Spelling.{are_multi_line, is_identifier, is_multi_line, is_number, is_one, is_quoted, is_tag, spells}
use Rattle.sieve_syntax.specs.Token.{IsBad, IsInside, IsLongest, Spells, SpellsFrom, White, line_at, line_feeds, nothing, white}
use Rattle.sieve_syntax.specs.Tree.{Command}
use Rattle.sieve_syntax.specs.Symbol.{Symbol, bad, close_brace, close_bracket, close_parenthesis, comma, identifier, number_symbol, open_brace, open_bracket, open_parenthesis, semicolon, string_symbol, tag_symbol, symbol_at, symbol_of, symbols_of}
use Rattle.sieve_syntax.specs.declared.token.Token.{Token}
use Rattle.sieve_syntax.specs.declared.token.TokenKind.{TokenKind}
use Rattle.sieve_syntax.specs.declared.token.TokenKind.TheVariants as kinds
use Rattle.sieve_check.specs.Breach.{line_of}
use Rattle.sieve_check.specs.Element.{Element, elements_of, the_command, the_number, the_test, the_text}
use Rattle.sieve_profile.specs.Profile.{Profile}
use Rattle.sieve_check.specs.Order.{IsInTextOrder, writes_element, written_by}
use Rattle.sieve_check.proofs.Truth.{not_both}
use Rattle.sieve_check.proofs.Written.{elements_written}

-- NUMBERS THAT NEVER FALL

-- none of the numbers is below the one before it, and the first isn't below `low`
abbrev Rise : ℕ → List ℕ → Type 0
Rise low [] = Unit {0}
Rise low (x ∷ xs) = (low ≤ x) × Rise x xs

rise_from : (low high : ℕ) (xs : List ℕ) → low ≤ high → Rise high xs → Rise low xs
rise_from low high [] h rise = tt
rise_from low high (x ∷ xs) h rise = (le_trans h rise.0, rise.1)

all_above : (low : ℕ) (xs : List ℕ) → Rise low xs → (j d : ℕ) → j < length xs → low ≤ get_or xs j d
all_above low [] rise j d below = absurd (not-suc-le-zero below)
all_above low (x ∷ xs) rise zero d below = rise.0
all_above low (x ∷ xs) rise (suc j) d below = le_trans rise.0 (all_above x xs rise.1 j d (le_of_suc-le-suc below))

never_fall : (low : ℕ) (xs : List ℕ) → Rise low xs → IsNonDecreasing xs
never_fall low [] rise i j d order below = absurd (not-suc-le-zero below)
never_fall low (x ∷ xs) rise zero zero d order below = le_refl _
never_fall low (x ∷ xs) rise zero (suc j) d order below = all_above x xs rise.1 j d (le_of_suc-le-suc below)
never_fall low (x ∷ xs) rise (suc i) zero d order below = absurd (not-suc-le-zero order)
never_fall low (x ∷ xs) rise (suc i) (suc j) d order below = never_fall x xs rise.1 i j d (le_of_suc-le-suc order) (le_of_suc-le-suc below)

-- PLACES

-- white space goes forward
forward : (text : List ℕ) {place end : ℕ} → White text place end → place ≤ end
forward text (nothing place) = le_refl place
forward text (white place n end is more) = let h : place + n ≤ end = forward text more in omega arith

-- the empty list of octets spells no token
no_token : (kind : TokenKind) → IsTrue (spells kind []) → ⊥
unfolding spells is_identifier is_tag is_number is_quoted is_multi_line are_multi_line lines_of is_one
no_token kinds.Identifier is = not_both is
no_token kinds.Tag is = not_both is
no_token kinds.Number is = not_both is
no_token kinds.Quoted is = not_both is
no_token kinds.MultiLine is = not_both is
no_token kinds.Semicolon is = not_both is
no_token kinds.OpenBrace is = not_both is
no_token kinds.CloseBrace is = not_both is
no_token kinds.OpenParenthesis is = not_both is
no_token kinds.CloseParenthesis is = not_both is
no_token kinds.OpenBracket is = not_both is
no_token kinds.CloseBracket is = not_both is
no_token kinds.Comma is = not_both is
no_token kinds.Bad is = not_both is

-- a spelling of a token has an octet
not_empty : (kind : TokenKind) (text : List ℕ) (start n : ℕ) → IsTrue (spells kind (take n (drop start text))) → 0 < n
not_empty kind text start zero is = absurd (no_token kind is)
not_empty kind text start (suc n) is = suc-le-suc zero-le

spelling_inside : (text : List ℕ) (token : Token) → IsLongest text token → IsInside text token
spelling_inside text token long =
    let some : 0 < token.end - token.start = not_empty token.kind text token.start (token.end - token.start) long.spelled in
    record { some = omega arith; inside = long.inside }

bad_inside : (text : List ℕ) (token : Token) → IsBad text token → IsInside text token
bad_inside text token is =
    let start : token.start < length text = is.start in
    let rest : token.end ≡ length text = is.rest in
    record { some = omega arith; inside = omega arith }

-- LINES

line_feeds_grow : (text : List ℕ) (a b : ℕ) → a ≤ b → line_feeds (take a text) ≤ line_feeds (take b text)
line_feeds_grow text a b h = subst (λ l. line_feeds l ≤ line_feeds (take b text)) (take-take a b text h) (sum_by-take-le (λ octet. cond (octet == octet_of "\n") 1 0) (take b text) a)

lines_grow : (text : List ℕ) (a b : ℕ) → a ≤ b → line_at text a ≤ line_at text b
lines_grow text a b h = let more : line_feeds (take a text) ≤ line_feeds (take b text) = line_feeds_grow text a b h in omega arith

-- TOKENS THAT SPELL A TEXT

abbrev ends_of : List Token → List ℕ
ends_of tokens = flat_map (λ token. token.start ∷ token.end ∷ []) tokens

-- the tokens from a place on lie in the text and stand apart, and their lines never fall
record StandFrom (text : List ℕ) (place : ℕ) (tokens : List Token) : Type 0 where
  inside : All (IsInside text) tokens
  apart : Rise place (ends_of tokens)
  lines : (p : Token → Bool) → Rise (line_at text place) (map (λ token. token.line) (filter p tokens))

none_stand : (text : List ℕ) (place : ℕ) → StandFrom text place []
none_stand text place = record { inside = λ k d below. absurd (not-suc-le-zero below); apart = tt; lines = λ p. tt }

with_line : (text : List ℕ) (place : ℕ) (token : Token) (tokens : List Token) (b : Bool) (p : Token → Bool) → place ≤ token.start → token.start ≤ token.end → token.line ≡ line_at text token.start
    → Rise (line_at text token.end) (map (λ token. token.line) (filter p tokens)) → Rise (line_at text place) (map (λ token. token.line) (cond b (token ∷ filter p tokens) (filter p tokens)))
with_line text place token tokens true p before some line rise = (
  subst (λ n. line_at text place ≤ n) (sym line) (lines_grow text place token.start before),
  rise_from token.line (line_at text token.end) _ (subst (λ n. n ≤ line_at text token.end) (sym line) (lines_grow text token.start token.end some)) rise,
)
with_line text place token tokens false p before some line rise = rise_from (line_at text place) (line_at text token.end) _ (lines_grow text place token.end (le_trans before some)) rise

-- with a token in front, the tokens from its end on are tokens from a place before it on
at_front : (text : List ℕ) (place : ℕ) (token : Token) (tokens : List Token) → place ≤ token.start → token.line ≡ line_at text token.start → IsInside text token → StandFrom text token.end tokens → StandFrom text place (token ∷ tokens)
at_front text place token tokens before line is stand =
    let some : token.start < token.end = is.some in
    let order : token.start ≤ token.end = omega arith in
    record {
      inside = All-cons (IsInside text) token tokens is stand.inside;
      apart = (before, (order, stand.apart));
      lines = λ p. with_line text place token tokens (p token) p before order line (stand.lines p);
    }

stand_from : (text : List ℕ) (tokens : List Token) (place : ℕ) → SpellsFrom text place tokens → StandFrom text place tokens
stand_from text [] place spelled = none_stand text place
stand_from text (token ∷ tokens) place spelled = by_token (stand_from text tokens token.end) spelled.2
  where
    by_token : (SpellsFrom text token.end tokens → StandFrom text token.end tokens) → ((IsLongest text token × SpellsFrom text token.end tokens) ⊎ (IsBad text token × (tokens ≡ []))) → StandFrom text place (token ∷ tokens)
    by_token below (inl long) = at_front text place token tokens (forward text spelled.0) spelled.1 (spelling_inside text token long.0) (below long.1)
    by_token below (inr wrong) = at_front text place token tokens (forward text spelled.0) spelled.1 (bad_inside text token wrong.0) (subst (λ ts. StandFrom text token.end ts) (sym wrong.1) (none_stand text token.end))

-- THE LINES OF ELEMENTS

-- the line of a word that writes an element
abbrev symbol_line : Symbol → ℕ
symbol_line (identifier name line) = line
symbol_line (tag_symbol name line) = line
symbol_line (number_symbol value line) = line
symbol_line (string_symbol octets line) = line
symbol_line semicolon = 0
symbol_line open_brace = 0
symbol_line close_brace = 0
symbol_line open_parenthesis = 0
symbol_line close_parenthesis = 0
symbol_line open_bracket = 0
symbol_line close_bracket = 0
symbol_line comma = 0
symbol_line bad = 0

element_line : (e : Element) → line_of e ≡ symbol_line (written_by e)
element_line (the_command context name line args ts ending) = refl
element_line (the_test context name line args ts) = refl
element_line (the_text context role text) = refl
element_line (the_number value line) = refl

element_lines : (es : List Element) → map line_of es ≡ map symbol_line (map written_by es)
element_lines [] = refl
element_lines (e ∷ es) = ap (λ n. n ∷ map line_of es) (element_line e) ∙ ap (λ l. symbol_line (written_by e) ∷ l) (element_lines es)

-- the line of a symbol that writes an element is that of its token
token_line : (kind : TokenKind) (octets : List ℕ) (line : ℕ) → writes_element (symbol_at kind octets line) ≡ true → symbol_line (symbol_at kind octets line) ≡ line
unfolding symbol_at
token_line kinds.Identifier octets line is = refl
token_line kinds.Tag octets line is = refl
token_line kinds.Number octets line is = refl
token_line kinds.Quoted octets line is = refl
token_line kinds.MultiLine octets line is = refl
token_line kinds.Semicolon octets line is = absurd (not_both is)
token_line kinds.OpenBrace octets line is = absurd (not_both is)
token_line kinds.CloseBrace octets line is = absurd (not_both is)
token_line kinds.OpenParenthesis octets line is = absurd (not_both is)
token_line kinds.CloseParenthesis octets line is = absurd (not_both is)
token_line kinds.OpenBracket octets line is = absurd (not_both is)
token_line kinds.CloseBracket octets line is = absurd (not_both is)
token_line kinds.Comma octets line is = absurd (not_both is)
token_line kinds.Bad octets line is = absurd (not_both is)

module _ (text : List ℕ) where
  abbrev writes : Token → Bool
  writes token = writes_element (symbol_of text token)

  token_lines : (tokens : List Token) → map symbol_line (map (symbol_of text) (filter writes tokens)) ≡ map (λ token. token.line) (filter writes tokens)
  token_lines [] = refl
  token_lines (token ∷ tokens) = by_token (writes token) refl (token_lines tokens)
    where
      by_token : (b : Bool) → writes token ≡ b → map symbol_line (map (symbol_of text) (filter writes tokens)) ≡ map (λ token. token.line) (filter writes tokens) → map symbol_line (map (symbol_of text) (cond b (token ∷ filter writes tokens) (filter writes tokens))) ≡ map (λ token. token.line) (cond b (token ∷ filter writes tokens) (filter writes tokens))
      by_token true is below = ap (λ n. n ∷ map symbol_line (map (symbol_of text) (filter writes tokens))) (token_line token.kind (slice_range text token.start token.end) token.line is) ∙ ap (λ l. token.line ∷ l) below
      by_token false is below = below

pub in_text_order : (profile : Profile) (tree : List Command) (text : List ℕ) (tokens : List Token) → Spells tokens text → WritesSymbols test_depth block_room tree (symbols_of text tokens) → IsInTextOrder profile tree text tokens
in_text_order profile tree text tokens spelled written =
    let stand = stand_from text tokens 0 spelled in
    let same = elements_written profile tree text tokens test_depth block_room written in
    record {
      elements = same;
      inside = stand.inside;
      apart = never_fall 0 (ends_of tokens) stand.apart;
      lines = subst (λ l. IsNonDecreasing l) (sym (element_lines (elements_of profile tree) ∙ ap (map symbol_line) same ∙ token_lines text tokens))
          (never_fall (line_at text 0) (map (λ token. token.line) (filter (writes text) tokens)) (stand.lines (writes text)));
    }
