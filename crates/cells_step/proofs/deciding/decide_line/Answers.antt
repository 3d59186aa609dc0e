use mathlib.Core.Path.{◌≡◌, refl, sym, ap, ◌∙◌}
use native.Mathlib.Omega.{arith}
use Rattle.figure_lines.specs.declared.Field.TheVariants.{D}
use Rattle.figure_lines.specs.Lines.{Line, l3, next_at}
use Rattle.figure_lines.proofs.Ranges.{line-at, wanted}
use Rattle.cells_spec.proofs.LineRuns.{by-load, deciding-reaches}
use Rattle.cells_step.proofs.deciding.decide_line.Goals as goal

pub load-requires : goal.load-requires
load-requires c = deciding-reaches _ c.args.r.now c.requires.within c.requires.first c.requires.last (sym c.wants.ensures ∙ c.if-not-wants.false)

pub decide_cas-requires : goal.decide_cas-requires
decide_cas-requires c = deciding-reaches _ c.args.r.now c.requires.within c.requires.first c.requires.last (sym c.wants.ensures ∙ c.if-not-wants.false)

pub load-requires-in_default : goal.load-requires-in_default
load-requires-in_default c = deciding-reaches _ c.args.r.now c.requires.within c.requires.first c.requires.last (sym c.wants.ensures ∙ c.if-not-wants.false)

pub returns-in_default : goal.returns-in_default
returns-in_default c t k l f = let r = c.args.r.now in
    let d = wanted r.wanted (sym c.wants.ensures ∙ c.if-not-wants.false) in
    let e : r.line ≡ 3 = omega arith in
    by-load c.args.pool.now t r k l f (l3 d.0) D (line-at r 3 e ∙ d.1 l3) refl c.load-in_default.ensures (c.decided.ensures t ∙ ap (λ (i : Line). next_at i t r c.load-in_default.result) (d.1 l3))
