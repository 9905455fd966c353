-- Worked rows of the things that the laws are about.
use Rattle.std.proofs.Common.{◌≡◌, ℕ, false, List, [], ◌∷◌, map, None, Some, refl, codes}
use Rattle.sieve_syntax.specs.Tree as syntax
use Rattle.sieve_syntax.specs.Symbol.{identifier, number_symbol, string_symbol}
use Rattle.sieve_check.specs.Context.{after, script_start}
use Rattle.sieve_check.specs.Element.{block_elements, elements_of, command_elements, command_list_elements, test_elements, tests_elements}
use Rattle.sieve_check.specs.Naming.{declares, mentions_in, set_by, sets}
use Rattle.sieve_check.specs.Order.{written_by}
use Rattle.sieve_check.specs.Marks.{act_mark, all_mark, always_mark, any_mark, block_end, branch_marks, choice_end, condition_marks, conditions_marks, else_mark, join_end, marks, never_mark, not_mark, return_mark, stop_mark, test_mark}
use Rattle.sieve_profile.specs.Profile.{empty_profile}
use Rattle.sieve_script.specs.Given.{has_tag}
use Rattle.sieve_script.specs.Reading.{discard_leaf, keep_leaf}
use Rattle.sieve_check.specs.Script.{block_commands, chain_of, condition_of, conditions, conditions_in, chain_with, script_of}
use Rattle.sieve_table.specs.Table.{command_named, test_named}

-- a command that ends by a semicolon, one with a test and a block, and one with a block alone
abbrev plain : List ℕ → ℕ → syntax.Command
plain name line = syntax.command name line [] syntax.no_tests syntax.no_block

abbrev branch : List ℕ → ℕ → List ℕ → syntax.Command → syntax.Command
branch name line condition inner = syntax.command name line [] (syntax.one_test (syntax.test condition line [] syntax.no_tests)) (syntax.block (syntax.command_list (inner ∷ [])))

abbrev last : ℕ → syntax.Command → syntax.Command
last line inner = syntax.command (codes "else") line [] syntax.no_tests (syntax.block (syntax.command_list (inner ∷ [])))

-- a test without arguments, and one with a list of tests
abbrev bare : List ℕ → syntax.Test
bare name = syntax.test name 1 [] syntax.no_tests

abbrev joining : List ℕ → List syntax.Test → syntax.Test
joining name inner = syntax.test name 1 [] (syntax.test_list (syntax.tests inner))

-- `if true { keep; } elsif false { stop; } else { discard; } keep;`
abbrev branches : List syntax.Command
branches = branch (codes "if") 1 (codes "true") (plain (codes "keep") 1) ∷ branch (codes "elsif") 2 (codes "false") (plain (codes "stop") 2) ∷ last 3 (plain (codes "discard") 3) ∷ plain (codes "keep") 4 ∷ []

marks_row : marks (script_of empty_profile branches) ≡ test_mark ∷ always_mark ∷ act_mark (keep_leaf None) 1 ∷ block_end ∷ test_mark ∷ never_mark ∷ stop_mark ∷ block_end ∷ else_mark ∷ act_mark discard_leaf 3 ∷ block_end ∷ choice_end ∷ act_mark (keep_leaf None) 4 ∷ []
unfolding marks branch_marks condition_marks conditions_marks chain_of chain_with block_commands condition_of conditions_in command_named test_named after has_tag
marks_row = refl

-- `return; keep;`
return_marks_row : marks (script_of empty_profile (plain (codes "return") 1 ∷ plain (codes "keep") 2 ∷ [])) ≡ return_mark ∷ act_mark (keep_leaf None) 2 ∷ []
unfolding marks branch_marks condition_marks conditions_marks chain_of chain_with block_commands condition_of conditions_in command_named test_named after has_tag
return_marks_row = refl

-- `if anyof(true, not allof(false, true)) { stop; }`
joins_row : marks (script_of empty_profile (syntax.command (codes "if") 1 [] (syntax.one_test (joining (codes "anyof") (bare (codes "true") ∷ syntax.test (codes "not") 1 [] (syntax.one_test (joining (codes "allof") (bare (codes "false") ∷ bare (codes "true") ∷ []))) ∷ []))) (syntax.block (syntax.command_list (plain (codes "stop") 1 ∷ []))) ∷ []))
    ≡ test_mark ∷ any_mark ∷ always_mark ∷ not_mark ∷ all_mark ∷ never_mark ∷ always_mark ∷ join_end ∷ join_end ∷ join_end ∷ stop_mark ∷ block_end ∷ choice_end ∷ []
unfolding marks branch_marks condition_marks conditions_marks chain_of chain_with block_commands condition_of conditions_in conditions command_named test_named after has_tag
joins_row = refl

-- `if size :over 5 { keep; } require "a";`
order_row : map written_by (elements_of empty_profile (syntax.command (codes "if") 1 [] (syntax.one_test (syntax.test (codes "size") 1 (syntax.tag (codes "over") 1 ∷ syntax.number (Some 5) 1 ∷ []) syntax.no_tests)) (syntax.block (syntax.command_list (plain (codes "keep") 2 ∷ [])))
    ∷ syntax.command (codes "require") 3 (syntax.strings (record { string = codes "a"; line = 3 } ∷ []) false ∷ []) syntax.no_tests syntax.no_block ∷ []))
    ≡ identifier (codes "if") 1 ∷ identifier (codes "size") 1 ∷ number_symbol (Some 5) 1 ∷ identifier (codes "keep") 2 ∷ identifier (codes "require") 3 ∷ string_symbol (codes "a") 3 ∷ []
unfolding command_list_elements command_elements block_elements tests_elements test_elements command_named test_named after
order_row = refl

-- A STRING

abbrev string : List ℕ → ℕ → syntax.Argument
string octets line = syntax.strings (record { string = octets; line = line } ∷ []) false

-- NAMES THAT ARE WRITTEN

-- a command with one string or two
abbrev naming_one : List ℕ → List ℕ → syntax.Command
naming_one command name = syntax.command command 1 (string name 1 ∷ []) syntax.no_tests syntax.no_block

abbrev naming_two : List ℕ → List ℕ → syntax.Command
naming_two command name = syntax.command command 1 (string name 1 ∷ string (codes "x") 1 ∷ []) syntax.no_tests syntax.no_block

-- `set "Ab" "x"; set "aB" "x"; if true { addflag "c" "x"; } global "d"; set "D" "x"; set "1" "x";
-- setflag "E" "x"; setflag "f";`
abbrev naming : List syntax.Command
naming =
    naming_two (codes "set") (codes "Ab") ∷ naming_two (codes "set") (codes "aB") ∷ branch (codes "if") 1 (codes "true") (naming_two (codes "addflag") (codes "c")) ∷ naming_one (codes "global") (codes "d")
    ∷ naming_two (codes "set") (codes "D") ∷ naming_two (codes "set") (codes "1") ∷ naming_two (codes "setflag") (codes "E") ∷ naming_one (codes "setflag") (codes "f") ∷ []

mentions_row : mentions_in (command_list_elements (script_start empty_profile) (syntax.command_list naming)) ≡ sets (codes "Ab") ∷ sets (codes "aB") ∷ sets (codes "c") ∷ declares (codes "d") ∷ sets (codes "D") ∷ sets (codes "1") ∷ sets (codes "E") ∷ []
unfolding command_list_elements command_elements block_elements tests_elements test_elements command_named test_named after
mentions_row = refl

set_row : set_by (mentions_in (command_list_elements (script_start empty_profile) (syntax.command_list naming))) ≡ codes "Ab" ∷ codes "c" ∷ codes "E" ∷ []
unfolding command_list_elements command_elements block_elements tests_elements test_elements command_named test_named after
set_row = refl
