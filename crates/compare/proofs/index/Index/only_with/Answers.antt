use Rattle.std.proofs.Common.{List, ℕ, refl, sym, subst, ◌≡◌, ◌∙◌, true, false}
use Rattle.std.specs.Prelude.{IfNone, IfSome}
use Rattle.std.specs.BTreeMap as tree
use Rattle.shapes.specs.declared.shape.Id.{Id}
use Rattle.topo.specs.declared.geom.Geom.{Geom}
use Rattle.compare.specs.Indexed.{IsIndexOf, borrowed_id_cmp}
use Rattle.compare.specs.Placed.{IsOnly}
use Rattle.compare.proofs.Counted.{only_none, only_some}
use Rattle.compare.proofs.index.Index.only_with.Goals as goal

pub returns-then-is_none-clause-none : goal.returns-then-is_none-clause-none
returns-then-is_none-clause-none c = λ gs ks is k alone. alone.some ((c.is_none.ensures).0 c.if-is_none.true)

pub returns-clause-some : goal.returns-clause-some
returns-clause-some c =
    subst (λ o. IfSome o (λ k. (gs : List Geom) (ks : List Id) → IsIndexOf gs ks c.args.self.now → IsOnly ks k c.args.key.now)) (sym c.place_of.ensures)
    (only_some c.args.self.now c.args.key (tree.get borrowed_id_cmp c.args.self.now.occurrences c.args.key) refl (λ e. let f : true ≡ false = sym ((c.is_none.ensures).1 e) ∙ c.if-is_none.false in cc))

pub returns-clause-none : goal.returns-clause-none
returns-clause-none c =
    subst (λ o. IfNone o ((gs : List Geom) (ks : List Id) → IsIndexOf gs ks c.args.self.now → (k : ℕ) → ¬ IsOnly ks k c.args.key.now)) (sym c.place_of.ensures)
    (only_none c.args.self.now c.args.key (tree.get borrowed_id_cmp c.args.self.now.occurrences c.args.key) refl)
