-- The complete paths of figure 2, and their counts.
use Rattle.std.specs.Prelude.{cond, List, [], ◌∷◌, ◌++◌, ℕ, ◌+◌, eqb}
use Rattle.figure_lines.specs.declared.Access.{Access}
use Rattle.figure_lines.specs.Record.{idle}
use Rattle.figure_lines.specs.Lines.{Line, Wanted, for13, for25, for28, l1, l2, l3, l4, l5, l6, l7, l8, l10, l11, l12, l15, l16, l17, l18, l19, l20, l21, l22, l23, l24, l26, l27, l30, access_at, loads, stores, hardware}
use Rattle.history_spec.specs.History.{Op, read, swap, Response, Value, Yes, No}

-- THE THIRTEEN PATHS

abbrev pub decision : Wanted → List Line
decision w = l1 w ∷ l2 w ∷ l3 w ∷ []

abbrev pub read_active : List Line
read_active = l10 ∷ l11 ∷ l12 ∷ []

abbrev pub read_decided : List Line
read_decided = read_active ++ decision for13

abbrev pub won_lines : List Line
won_lines = l15 ∷ l16 ∷ l17 ∷ l18 ∷ l19 ∷ l20 ∷ l21 ∷ []

abbrev pub no_from22 : List Line
no_from22 = won_lines ++ (l22 ∷ [])

abbrev pub yes_from26 : List Line
yes_from26 = won_lines ++ (l23 ∷ l24 ∷ l26 ∷ [])

abbrev pub yes_from25 : List Line
yes_from25 = won_lines ++ (l23 ∷ l24 ∷ decision for25)

-- to line 28: by 17, 19, 21 or 25
abbrev pub by17 : List Line
by17 = l15 ∷ l16 ∷ l17 ∷ l27 ∷ decision for28

abbrev pub by19 : List Line
by19 = l15 ∷ l16 ∷ l17 ∷ l18 ∷ l19 ∷ l27 ∷ decision for28

abbrev pub by21 : List Line
by21 = won_lines ++ decision for28

abbrev pub by25 : List Line
by25 = yes_from25 ++ decision for28

-- a new block is filled, and replaces the held one
abbrev pub replace : List Line
replace = l4 ∷ l5 ∷ l6 ∷ l7 ∷ l8 ∷ l30 ∷ []

-- document 01's order; the ninth, "no from 28 by 25", no fresh opening reaches
abbrev pub paths : List (List Line)
paths =
    read_active ∷ read_decided ∷ no_from22 ∷ yes_from26 ∷ yes_from25 ∷
    by17 ∷ by19 ∷ by21 ∷ by25 ∷
    (by17 ++ replace) ∷ (by19 ++ replace) ∷ (by21 ++ replace) ∷ (by25 ++ replace) ∷ []

-- the twelve others
abbrev pub reached : List (List Line)
reached =
    read_active ∷ read_decided ∷ no_from22 ∷ yes_from26 ∷ yes_from25 ∷
    by17 ∷ by19 ∷ by21 ∷
    (by17 ++ replace) ∷ (by19 ++ replace) ∷ (by21 ++ replace) ∷ (by25 ++ replace) ∷ []

-- WHICH PATHS A CALL MAY DO, by what it is as begun and what it answers

abbrev pub read_paths : List (List Line)
read_paths = read_active ∷ read_decided ∷ []

-- the four that end at line 30
abbrev pub replacing : List (List Line)
replacing = (by17 ++ replace) ∷ (by19 ++ replace) ∷ (by21 ++ replace) ∷ (by25 ++ replace) ∷ []

abbrev pub yes_paths : List (List Line)
yes_paths = yes_from26 ∷ yes_from25 ∷ replacing

abbrev pub no_paths : List (List Line)
no_paths = no_from22 ∷ by17 ∷ by19 ∷ by21 ∷ replacing

-- line 14: a swap of equal values reads, and answers yes or no
abbrev pub paths_of : Op → Response → List (List Line)
paths_of (read k) (Value v) = read_paths
paths_of (read k) Yes = []
paths_of (read k) No = []
paths_of (swap k e n) (Value v) = []
paths_of (swap k e n) Yes = cond (eqb e n) read_paths yes_paths
paths_of (swap k e n) No = cond (eqb e n) read_paths no_paths

-- COUNTS

-- how often an access of the lines is of the kind that the test counts; what an access is does not depend on task and record
abbrev pub access_count : (Access → ℕ) → List Line → ℕ
access_count f [] = 0
access_count f (l ∷ ls) = f (access_at l 0 idle) + access_count f ls

abbrev pub steps : List Line → ℕ
steps [] = 0
steps (l ∷ ls) = 1 + steps ls

-- steps, loads, stores, hardware CAS attempts
abbrev pub path_counts : List Line → List ℕ
path_counts p = steps p ∷ access_count loads p ∷ access_count stores p ∷ access_count hardware p ∷ []

abbrev pub count_rows : List (List Line) → List (List ℕ)
count_rows [] = []
count_rows (p ∷ ps) = path_counts p ∷ count_rows ps
