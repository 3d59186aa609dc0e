use Rattle.std.proofs.Common.{[], ◌∷◌, ◌++◌, length, ◌≤◌, ℕ, arith}
use Rattle.text.specs.Bytes.{bytes}
use Rattle.text.specs.Lines.{line}
use Rattle.history_spec.specs.History.{read, swap, begin, step, drop}
use Rattle.text.specs.Page.{Written}
use Rattle.session_spec.specs.Written.{action_start}
use Rattle.shake_spec.proofs.Writing.{short-line, puts}
use Rattle.shake_tool.proofs.actions.put_action.Goals as goal

pub line-requires : goal.line-requires
line-requires c =
    let h : length {A = ℕ} (line (bytes "(read") (c.from.result ∷ c.from-in-Read.result ∷ [])) ≤ 17 = rw (c.from.ensures, c.from-in-Read.ensures) (short-line (begin c.in-Read.t (read c.in-Read.k)) (rw c.in-Read.is at c.requires.short)) in
    omega (arith, h, c.requires.in_bounds)

pub line-requires-in-Swap : goal.line-requires-in-Swap
line-requires-in-Swap c =
    let h : length {A = ℕ} (line (bytes "(swap") (c.from-in-Swap.result ∷ c.from-in-Swap-2.result ∷ c.from-in-Swap-3.result ∷ c.from-in-Swap-4.result ∷ [])) ≤ 17 = rw (c.from-in-Swap.ensures, c.from-in-Swap-2.ensures, c.from-in-Swap-3.ensures, c.from-in-Swap-4.ensures) (short-line (begin c.in-Swap.t (swap c.in-Swap.k c.in-Swap.e c.in-Swap.n)) (rw c.in-Swap.is at c.requires.short)) in
    omega (arith, h, c.requires.in_bounds)

pub line-requires-in-Step : goal.line-requires-in-Step
line-requires-in-Step c =
    let h : length {A = ℕ} (line (bytes "(step") (c.from-in-Step.result ∷ [])) ≤ 17 = rw c.from-in-Step.ensures (short-line (step c.in-Step.t) (rw c.in-Step.is at c.requires.short)) in
    omega (arith, h, c.requires.in_bounds)

pub line-requires-in-Drop : goal.line-requires-in-Drop
line-requires-in-Drop c =
    let h : length {A = ℕ} (line (bytes "(drop") (c.from-in-Drop.result ∷ [])) ≤ 17 = rw c.from-in-Drop.ensures (short-line (drop c.in-Drop.t) (rw c.in-Drop.is at c.requires.short)) in
    omega (arith, h, c.requires.in_bounds)

pub returns-in-Read : goal.returns-in-Read
returns-in-Read c =
    let a = begin c.in-Read.t (read c.in-Read.k) in
    let x : Written c.args.page.now c.line.new.self (action_start a ++ bytes ")\n") = rw (← c.from.ensures, ← c.from-in-Read.ensures) c.line.ensures in
    record { written = rw c.in-Read.is (puts a x).0; upper_bound = (puts a x).1 (rw c.in-Read.is at c.requires.short) }

pub returns-in-Swap : goal.returns-in-Swap
returns-in-Swap c =
    let a = begin c.in-Swap.t (swap c.in-Swap.k c.in-Swap.e c.in-Swap.n) in
    let x : Written c.args.page.now c.line-in-Swap.new.self (action_start a ++ bytes ")\n") = rw (← c.from-in-Swap.ensures, ← c.from-in-Swap-2.ensures, ← c.from-in-Swap-3.ensures, ← c.from-in-Swap-4.ensures) c.line-in-Swap.ensures in
    record { written = rw c.in-Swap.is (puts a x).0; upper_bound = (puts a x).1 (rw c.in-Swap.is at c.requires.short) }

pub returns-in-Step : goal.returns-in-Step
returns-in-Step c =
    let a = step c.in-Step.t in
    let x : Written c.args.page.now c.line-in-Step.new.self (action_start a ++ bytes ")\n") = rw (← c.from-in-Step.ensures) c.line-in-Step.ensures in
    record { written = rw c.in-Step.is (puts a x).0; upper_bound = (puts a x).1 (rw c.in-Step.is at c.requires.short) }

pub returns-in-Drop : goal.returns-in-Drop
returns-in-Drop c =
    let a = drop c.in-Drop.t in
    let x : Written c.args.page.now c.line-in-Drop.new.self (action_start a ++ bytes ")\n") = rw (← c.from-in-Drop.ensures) c.line-in-Drop.ensures in
    record { written = rw c.in-Drop.is (puts a x).0; upper_bound = (puts a x).1 (rw c.in-Drop.is at c.requires.short) }
