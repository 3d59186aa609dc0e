-- Which openings and forms are read back as they were written: numbers of at most 32 bits, forms at most so many brackets deep.
use Rattle.std.specs.Prelude.{List, [], ◌∷◌, ◌++◌, ℕ, zero, suc, ◌≤◌}
use Rattle.history_spec.specs.History.{read, swap, Action, begin, step, drop}
use Rattle.session_spec.specs.Session.{Opening, Form, act, again, Forms, empty, with, actions}

abbrev pub Small : List ℕ → Type 0
Small [] = Unit {0}
Small (n ∷ l) = (n ≤ 4294967295) × Small l

abbrev pub numbers_of : Action → List ℕ
numbers_of (begin t (read k)) = t ∷ k ∷ []
numbers_of (begin t (swap k e n)) = t ∷ k ∷ e ∷ n ∷ []
numbers_of (step t) = t ∷ []
numbers_of (drop t) = t ∷ []

abbrev pub SmallActions : List Action → Type 0
SmallActions [] = Unit {0}
SmallActions (a ∷ l) = Small (numbers_of a) × SmallActions l

abbrev pub Each : (Form → Type 0) → Forms → Type 0
Each P empty = Unit {0}
Each P (with l f) = Each P l × P f

-- at most d brackets deep
unfoldable pub Proper : (d : ℕ) → Form → Type 0
Proper zero f = ⊥
Proper (suc d) (act a) = Small (numbers_of a)
Proper (suc d) (again c l) = (c ≤ 4294967295) × Each (Proper d) l

-- a file's forms
unfoldable pub ProperLines : List Form → Type 0
ProperLines [] = Unit {0}
ProperLines (f ∷ l) = Proper 8 f × ProperLines l

abbrev pub ProperOpening : Opening → Type 0
ProperOpening o = Small (o.tasks ∷ o.cells ∷ o.blocks ∷ o.values)

-- the actions of a file's forms, in order
unfoldable pub actions_in : List Form → List Action
actions_in [] = []
actions_in (f ∷ l) = actions f ++ actions_in l
