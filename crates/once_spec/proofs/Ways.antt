-- Which step may follow which, and the ways that lead to each: what a pending call did so far is one of them, a finished one's a path.
use mathlib.Core.Path.{◌≡◌, refl, sym}
use mathlib.Core.Logic.{inl, inr}
use mathlib.Core.Bool.{Bool, true, false, ◌&&◌, ◌||◌, not, cond}
use mathlib.Core.List.{List, [], ◌∷◌, ◌++◌}
use Prim.Native.Nat.{ℕ, ◌≤◌, ◌<◌}
use lib.Dec.{eqb, leb, ltb, T, eqb→eq, leb→le, ltb→lt}
use lib.ListN.{length}
use Rattle.figure_lines.specs.Record.{no_value}
use Rattle.history_spec.specs.Basics.{◌∈◌}
use Rattle.history_spec.proofs.ListTests.{every, every_in, has, has_in, both, implies}
use Rattle.once_spec.specs.declared.OnceCell.{OnceCell}
use Rattle.once_spec.specs.declared.Offer.{Offer}
use Rattle.once_spec.specs.Figure.{Stage, write_x, read_y, write_y, read_x, store_v, read_c, store_d, set_c, test_v, load_v, look_d, cas_d, read_d, nowhere, is_cas, stage_at, Leaves, go_on, agree, stage_does}
use Rattle.once_spec.specs.History.{attempts_in}
use Rattle.once_spec.specs.Paths.{once_paths, once_table}
use Rattle.once_spec.proofs.Classes.{number, is, busy, tries, stages, same_number, every_stage}

-- WHAT MAY FOLLOW

abbrev pub successors : Stage → List Stage
successors write_x = read_y ∷ []
successors read_y = write_y ∷ set_c ∷ []
successors write_y = read_x ∷ []
successors read_x = store_v ∷ set_c ∷ []
successors store_v = read_c ∷ []
successors read_c = store_d ∷ look_d ∷ []
successors store_d = []
successors set_c = test_v ∷ []
successors test_v = load_v ∷ look_d ∷ []
successors load_v = look_d ∷ []
successors look_d = cas_d ∷ []
successors cas_d = read_d ∷ []
successors read_d = []
successors nowhere = []

abbrev pub ending : Stage → Bool
ending ℓ = is 7 ℓ || (is 11 ℓ || is 13 ℓ)

-- of the cell, a step may change the five words
pub data Leads (ℓ : Stage) (r : Offer) (m : OnceCell) : Leaves → Type 0 where
  goes : (m' : OnceCell) (n w : ℕ) → m'.offered ≡ m.offered → stage_at n ∈ successors ℓ → Leads ℓ r m (go_on m' r n w)
  ends : (m' : OnceCell) (w : ℕ) → m'.offered ≡ m.offered → T (ending ℓ) → Leads ℓ r m (agree m' r w)

either_way : (ℓ : Stage) (r : Offer) (m : OnceCell) (b : Bool) (n n' w : ℕ) → stage_at n ∈ successors ℓ → stage_at n' ∈ successors ℓ → Leads ℓ r m (go_on m r (cond b n n') w)
either_way ℓ r m true n n' w a c = goes m n w refl a
either_way ℓ r m false n n' w a c = goes m n' w refl c

pub leads : (ℓ : Stage) (p : ℕ) (r : Offer) (m : OnceCell) → T (busy ℓ) → Leads ℓ r m (stage_does ℓ p r m)
leads write_x p r m b = goes _ _ _ refl (inl refl)
leads read_y p r m b = either_way read_y r m (eqb m.y 0) _ _ _ (inl refl) (inr (inl refl))
leads write_y p r m b = goes _ _ _ refl (inl refl)
leads read_x p r m b = either_way read_x r m (eqb m.x p) _ _ _ (inl refl) (inr (inl refl))
leads store_v p r m b = goes _ _ _ refl (inl refl)
leads read_c p r m b = either_way read_c r m (eqb m.c 0) _ _ _ (inl refl) (inr (inl refl))
leads store_d p r m b = ends _ _ refl tt
leads set_c p r m b = goes _ _ _ refl (inl refl)
leads test_v p r m b = either_way test_v r m (eqb m.v no_value) _ _ _ (inr (inl refl)) (inl refl)
leads load_v p r m b = goes _ _ _ refl (inl refl)
leads look_d p r m b = go (eqb m.d no_value)
  where
    go : (t : Bool) → Leads look_d r m (cond t (go_on m r 12 r.value) (agree m r m.d))
    go true = goes m 12 r.value refl (inl refl)
    go false = ends m m.d refl tt
leads cas_d p r m b = goes _ _ _ refl (inl refl)
leads read_d p r m b = ends _ _ refl tt
leads nowhere p r m b = absurd b

-- but for the look at D, no step leads to the hardware CAS
pub never_next : (ℓ ℓ' : Stage) → ℓ' ∈ successors ℓ → T (not (tries ℓ)) → T (not (is 11 ℓ)) → T (not (tries ℓ'))
never_next ℓ ℓ' f n l = every_in (λ ℓ'. not (tries ℓ')) (successors ℓ)
    (implies (not (is 11 ℓ)) _ (implies (not (tries ℓ)) _ (every_stage (λ ℓ. not (not (tries ℓ)) || (not (not (is 11 ℓ)) || every (λ ℓ'. not (tries ℓ')) (successors ℓ))) tt ℓ) n) l) ℓ' f

-- THE WAYS TO A STEP

abbrev each : Stage → List (List Stage) → List (List Stage)
each ℓ [] = []
each ℓ (d ∷ l) = (d ++ (ℓ ∷ [])) ∷ each ℓ l

-- a splitter lost at Y or at X
abbrev lost : List (List Stage)
lost = (write_x ∷ read_y ∷ []) ∷ (write_x ∷ read_y ∷ write_y ∷ read_x ∷ []) ∷ []

-- V was looked at
abbrev tested : List (List Stage)
tested = each test_v (each set_c lost)

abbrev looked_at_d : List (List Stage)
looked_at_d = each load_v tested ++ (tested ++ ((write_x ∷ read_y ∷ write_y ∷ read_x ∷ store_v ∷ read_c ∷ []) ∷ []))

abbrev pub ways : Stage → List (List Stage)
ways write_x = [] ∷ []
ways read_y = (write_x ∷ []) ∷ []
ways write_y = (write_x ∷ read_y ∷ []) ∷ []
ways read_x = (write_x ∷ read_y ∷ write_y ∷ []) ∷ []
ways store_v = (write_x ∷ read_y ∷ write_y ∷ read_x ∷ []) ∷ []
ways read_c = (write_x ∷ read_y ∷ write_y ∷ read_x ∷ store_v ∷ []) ∷ []
ways store_d = (write_x ∷ read_y ∷ write_y ∷ read_x ∷ store_v ∷ read_c ∷ []) ∷ []
ways set_c = lost
ways test_v = each set_c lost
ways load_v = tested
ways look_d = looked_at_d
ways cas_d = each look_d looked_at_d
ways read_d = each cas_d (each look_d looked_at_d)
ways nowhere = []

abbrev same_stages : List Stage → List Stage → Bool
same_stages [] [] = true
same_stages [] (b ∷ y) = false
same_stages (a ∷ x) [] = false
same_stages (a ∷ x) (b ∷ y) = eqb (number a) (number b) && same_stages x y

same_stages_lem : (x y : List Stage) → T (same_stages x y) → x ≡ y
same_stages_lem [] [] h = refl
same_stages_lem [] (b ∷ y) h = absurd h
same_stages_lem (a ∷ x) [] h = absurd h
same_stages_lem (a ∷ x) (b ∷ y) h = let q = both (eqb (number a) (number b)) (same_stages x y) h in
    rw (same_number a b (eqb→eq (number a) (number b) q.0), same_stages_lem x y q.1) refl

-- all ways to a step, one step longer, are among some ways
longer : (ℓ : Stage) (to : List (List Stage)) → T (every (λ d. has same_stages to (d ++ (ℓ ∷ []))) (ways ℓ)) → (d : List Stage) → d ∈ ways ℓ → (d ++ (ℓ ∷ [])) ∈ to
longer ℓ to h d i = has_in same_stages same_stages_lem to (d ++ (ℓ ∷ [])) (every_in (λ d. has same_stages to (d ++ (ℓ ∷ []))) (ways ℓ) h d i)

pub goes_way : (ℓ ℓ' : Stage) → ℓ' ∈ successors ℓ → (d : List Stage) → d ∈ ways ℓ → (d ++ (ℓ ∷ [])) ∈ ways ℓ'
goes_way ℓ ℓ' f = longer ℓ (ways ℓ')
    (every_in (λ ℓ'. every (λ d. has same_stages (ways ℓ') (d ++ (ℓ ∷ []))) (ways ℓ)) (successors ℓ)
    (every_stage (λ ℓ. every (λ ℓ'. every (λ d. has same_stages (ways ℓ') (d ++ (ℓ ∷ []))) (ways ℓ)) (successors ℓ)) tt ℓ) ℓ' f)

pub ends_path : (ℓ : Stage) → T (ending ℓ) → (d : List Stage) → d ∈ ways ℓ → (d ++ (ℓ ∷ [])) ∈ once_paths
ends_path ℓ e = longer ℓ once_paths (implies (ending ℓ) _ (every_stage (λ ℓ. not (ending ℓ) || every (λ d. has same_stages once_paths (d ++ (ℓ ∷ []))) (ways ℓ)) tt ℓ) e)

-- THEIR COUNTS

way_fact : (f : Stage → List Stage → Bool) → T (every (λ ℓ. every (f ℓ) (ways ℓ)) stages) → (ℓ : Stage) (d : List Stage) → d ∈ ways ℓ → T (f ℓ d)
way_fact f h ℓ d i = every_in (f ℓ) (ways ℓ) (every_stage (λ ℓ. every (f ℓ) (ways ℓ)) h ℓ) d i

pub way_short : (ℓ : Stage) (d : List Stage) → d ∈ ways ℓ → length d < 10
way_short ℓ d i = ltb→lt _ _ (way_fact (λ ℓ d. ltb (length d) 10) tt ℓ d i)

pub way_few : (ℓ : Stage) (d : List Stage) → d ∈ ways ℓ → attempts_in d ≤ 1
way_few ℓ d i = leb→le _ _ (way_fact (λ ℓ d. leb (attempts_in d) 1) tt ℓ d i)

-- who does not try has not tried
pub way_quiet : (ℓ : Stage) (d : List Stage) → d ∈ ways ℓ → T (not (tries ℓ)) → attempts_in d ≡ 0
way_quiet ℓ d i n = eqb→eq _ _ (implies (not (tries ℓ)) _ (way_fact (λ ℓ d. not (not (tries ℓ)) || eqb (attempts_in d) 0) tt ℓ d i) n)

pub way_busy : (ℓ : Stage) (d : List Stage) → d ∈ ways ℓ → T (busy ℓ)
way_busy = way_fact (λ ℓ d. busy ℓ) tt

-- who neither tries nor has tried ends without
pub way_calm : (ℓ : Stage) (d : List Stage) → d ∈ ways ℓ → T (not (tries ℓ)) → attempts_in (d ++ (ℓ ∷ [])) ≡ 0
way_calm ℓ d i n = eqb→eq _ _ (implies (not (tries ℓ)) _ (way_fact (λ ℓ d. not (not (tries ℓ)) || eqb (attempts_in (d ++ (ℓ ∷ []))) 0) tt ℓ d i) n)

-- the flag is the count, since the hardware CAS comes once on a way
pub flag_counts : (a : Bool) (ℓ : Stage) (d : List Stage) → d ∈ ways ℓ → cond a 1 0 ≡ attempts_in d → cond (a || is_cas ℓ) 1 0 ≡ attempts_in (d ++ (ℓ ∷ []))
flag_counts true ℓ d i e = sym (eqb→eq _ _ (implies (eqb (attempts_in d) 1) _ (way_fact (λ ℓ d. not (eqb (attempts_in d) 1) || eqb (attempts_in (d ++ (ℓ ∷ []))) 1) tt ℓ d i) (rw (← e) tt)))
flag_counts false ℓ d i e = sym (eqb→eq _ _ (implies (eqb (attempts_in d) 0) _ (way_fact (λ ℓ d. not (eqb (attempts_in d) 0) || eqb (attempts_in (d ++ (ℓ ∷ []))) (cond (is_cas ℓ) 1 0)) tt ℓ d i) (rw (← e) tt)))

path_fact : (f : List Stage → Bool) → T (every f once_paths) → (d : List Stage) → d ∈ once_paths → T (f d)
path_fact f h d i = every_in f once_paths h d i

pub path-short : (d : List Stage) → d ∈ once_paths → length d ≤ 10
path-short d i = leb→le _ _ (path_fact (λ d. leb (length d) 10) tt d i)

pub path-few : (d : List Stage) → d ∈ once_paths → attempts_in d ≤ 1
path-few d i = leb→le _ _ (path_fact (λ d. leb (attempts_in d) 1) tt d i)

abbrev same_pair : ℕ × ℕ → ℕ × ℕ → Bool
same_pair x y = eqb x.0 y.0 && eqb x.1 y.1

same_pair_lem : (x y : ℕ × ℕ) → T (same_pair x y) → x ≡ y
same_pair_lem (a, b) (c, d) h = let q = both (eqb a c) (eqb b d) h in rw (eqb→eq a c q.0, eqb→eq b d q.1) refl

pub path-row : (d : List Stage) → d ∈ once_paths → (length d, attempts_in d) ∈ once_table
path-row d i = has_in same_pair same_pair_lem once_table (length d, attempts_in d) (path_fact (λ d. has same_pair once_table (length d, attempts_in d)) tt d i)
