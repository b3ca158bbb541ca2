-- Texts that are written in pieces.
use Rattle.std.proofs.Common.{codes, ◌≡◌, ℕ, ℤ, List, ◌++◌, refl, subst, ap, ◌∙◌, append_assoc}
use Rattle.sinks.specs.Seen.{Seen}
use Rattle.sinks.specs.Writes.{TookAll}
use Rattle.sinks.proofs.Writes.{all_all}
use Rattle.decimals.specs.Topology.TopologyText.{bbox_text, transform_member, transform_text}
use Rattle.decimals.specs.Topology.Unit.{absolute_text}
use Rattle.numerals.specs.Numeral.{Measure}
use Rattle.grid.specs.Place.{Transform}
use Rattle.topo.specs.Parts.{Corners}

pieces : (h a m b t u : List ℕ) → (h ++ (a ++ (m ++ (b ++ t)))) ++ u ≡ h ++ (a ++ (m ++ (b ++ (t ++ u))))
pieces h a m b t u = simp append_assoc

-- a text in two pieces, of which the first is five
pub both_pieces : {x y z : Seen} (h a m b t u goal : List ℕ) → TookAll x y (h ++ (a ++ (m ++ (b ++ t)))) → TookAll y z u
    → h ++ (a ++ (m ++ (b ++ (t ++ u)))) ≡ goal → TookAll x z goal
both_pieces {x} {y} {z} h a m b t u goal p q e = subst (λ l. TookAll x z l) (pieces h a m b t u ∙ e) (all_all p q)

-- a text in four pieces
pub four_pieces : {v w x y z : Seen} (a b c d : List ℕ) → TookAll v w a → TookAll w x b → TookAll x y c → TookAll y z d → TookAll v z (a ++ (b ++ (c ++ d)))
four_pieces a b c d p q r s = all_all p (all_all q (all_all r s))

-- the member `transform`, as it is written
pub transform_is : (u : Measure) (g : Transform) (s d : ℤ × ℤ) (a b x y : List ℕ) → s ≡ (g.x.scale, g.y.scale) → d ≡ (g.x.translate, g.y.translate)
    → a ≡ absolute_text u s.0 → b ≡ absolute_text u s.1 → x ≡ absolute_text u d.0 → y ≡ absolute_text u d.1
    → codes "\"transform\":{\"scale\":[" ++ (a ++ (codes "," ++ (b ++ (codes "]" ++ (codes ",\"translate\":[" ++ (x ++ (codes "," ++ (y ++ codes "]},")))))))) ≡ transform_text u g
transform_is u g s d a b x y scales places ea eb ex ey =
    let first : a ≡ absolute_text u g.x.scale = ea ∙ ap (λ (p : ℤ × ℤ). absolute_text u p.0) scales in
    let second : b ≡ absolute_text u g.y.scale = eb ∙ ap (λ (p : ℤ × ℤ). absolute_text u p.1) scales in
    let third : x ≡ absolute_text u g.x.translate = ex ∙ ap (λ (p : ℤ × ℤ). absolute_text u p.0) places in
    let fourth : y ≡ absolute_text u g.y.translate = ey ∙ ap (λ (p : ℤ × ℤ). absolute_text u p.1) places in
    (λ i. codes "\"transform\":{\"scale\":[" ++ (first i ++ (codes "," ++ (second i ++ (codes "]" ++ (codes ",\"translate\":[" ++ (third i ++ (codes "," ++ (fourth i ++ codes "]},")))))))))

-- the member `transform` of four numerals, as it is written
pub member_is : (a b x y : List ℕ)
    → codes "\"transform\":{\"scale\":[" ++ (a ++ (codes "," ++ (b ++ (codes "]" ++ (codes ",\"translate\":[" ++ (x ++ (codes "," ++ (y ++ codes "]},")))))))) ≡ transform_member a b x y
member_is a b x y = refl

-- a text in three pieces, of which the first is three
pub content_pieces : {w x y z : Seen} (h a m b t : List ℕ) → TookAll w x (h ++ (a ++ m)) → TookAll x y b → TookAll y z t → TookAll w z (h ++ (a ++ (m ++ (b ++ t))))
content_pieces {w} {x} {y} {z} h a m b t p q r = subst (λ l. TookAll w z l) (regrouped h a m b t) (all_all p (all_all q r))
  where
    regrouped : (h a m b t : List ℕ) → (h ++ (a ++ m)) ++ (b ++ t) ≡ h ++ (a ++ (m ++ (b ++ t)))
    regrouped h a m b t = simp append_assoc

-- the member `bbox`, as it is written
pub bbox_is : (u : Measure) (c : Corners) (a b x y : List ℕ) → a ≡ absolute_text u c.0 → b ≡ absolute_text u c.1 → x ≡ absolute_text u c.2 → y ≡ absolute_text u c.3
    → codes "\"bbox\":[" ++ (a ++ (codes "," ++ (b ++ (codes "," ++ (x ++ (codes "," ++ (y ++ codes "],"))))))) ≡ bbox_text u c
bbox_is u c a b x y ea eb ex ey = (λ i. codes "\"bbox\":[" ++ (ea i ++ (codes "," ++ (eb i ++ (codes "," ++ (ex i ++ (codes "," ++ (ey i ++ codes "],"))))))))
