-- Lists that lie one after another, and their places.
use Rattle.std.specs.Prelude.{◌≡◌, ◌≤◌, ℕ, zero, suc, List, [], ◌∷◌, ◌++◌, length, take, drop, slice_index_or}
use Rattle.sieve_variables.specs.Part.{Part}

-- the items from one place on up to another
abbrev pub between : {X : Type 0} → ℕ → ℕ → List X → List X
between from to xs = drop from (take to xs)

-- Items cut into lists. The first goes from a place up to its end. The next goes from there up to
-- its own end.
abbrev pub cut : {X : Type 0} → ℕ → List ℕ → List X → List (List X)
cut from [] xs = []
cut from (end ∷ ends) xs = between from end xs ∷ cut end ends xs

-- Each end is at most a count. The last end is the count, or if there are no ends, the place before
-- them is. Ends need not ascend.
abbrev pub EndAt : ℕ → List ℕ → ℕ → Type 0
EndAt from [] count = from ≡ count
EndAt from (end ∷ ends) count = (end ≤ count) × EndAt end ends count

-- the place where item `i` begins: the first at the front, and each other where the one before it
-- ends
abbrev pub start : List ℕ → ℕ → ℕ
start ends zero = 0
start ends (suc i) = slice_index_or ends i 0

-- lists of strings: the strings, each by its parts, and where each list ends among them
pub record Lists : Type 0 where
  pub strings : List (List Part)
  pub ends : List ℕ

abbrev pub no_lists : Lists
no_lists = record { strings = []; ends = [] }

-- with one list more
abbrev pub lists_with : Lists → List (List Part) → Lists
lists_with lists list = record { strings = lists.strings ++ list; ends = lists.ends ++ length (lists.strings ++ list) ∷ [] }

-- with more strings and more ends after them: the further ends count from the first string of all
abbrev pub lists_plus : Lists → Lists → Lists
lists_plus lists others = record { strings = lists.strings ++ others.strings; ends = lists.ends ++ others.ends }

-- list `i`, or an empty list if there is none
abbrev pub list_in : Lists → ℕ → List (List Part)
list_in lists i = between (start lists.ends i) (slice_index_or lists.ends i 0) lists.strings
