-- What a comparing sink took tells whether two texts are the same.
use Rattle.std.proofs.Common.{◌≡◌, ℕ, ◌+◌, ◌-◌, ◌<◌, ◌≤◌, List, [], ◌∷◌, ◌++◌, length, take, drop, get_or, true, false, ◌==◌, Option, Some, None, is_some, refl, sym, ap, ap₂, ◌∙◌, arith, append_assoc, append-nil, length-append, length-drop, lt-ltb}
use Rattle.std.proofs.lemmas.List.{take_more, length-take-le}
use Rattle.std.proofs.lemmas.Bool.{and_from, eqb-true}
use Rattle.std.proofs.Math.Seq.{take-add, get_or-append_seam, take_all}
use Rattle.std.proofs.Math.ListN.{take-append-drop}
use Rattle.sinks.specs.Seen.{one_more}
use Rattle.sinks.specs.Writes.{TookAll, TookPart}
use Rattle.topo_io.specs.Front.{one_or_none, is_next, may_have_failed, taken}

pub shown : (w xs : List ℕ) (at n : ℕ) → take n (take (length w - at) (drop at w)) ≡ xs → take n (drop at w) ≡ xs
shown w xs at n e = sym (ap (take n) (take_all (length w - at) (drop at w) (omega (arith, length-drop at w)))) ∙ e

grows : (w more : List ℕ) (at next : ℕ) (o : Option ℕ) → take next w ++ one_or_none o ≡ take at w ++ more → taken w next o ≡ taken w at None ++ more
grows w more at next o e =
    ap (λ l. length w ∷ (w ++ l)) e ∙ ap (λ l. length w ∷ (w ++ (l ++ more))) (sym (append-nil (take at w))) ∙ ap (λ l. length w ∷ l) (sym (append_assoc w (take at w ++ []) more))

after_same : (w piece : List ℕ) (at n : ℕ) → take n (drop at w) ≡ take n piece → take (at + n) w ≡ take at w ++ take n piece
after_same w piece at n e = take-add at n w ∙ ap (λ l. take at w ++ l) e

pub took_same : (w piece : List ℕ) (at n failures : ℕ) (o : Option ℕ) → is_some o ≡ false → take n (drop at w) ≡ take n piece
    → TookAll (record { bytes = Some (taken w at o); failures = failures }) (record { bytes = Some (taken w (at + n) o); failures = failures }) (take n piece)
took_same w piece at n failures None none e = record { bytes = grows w (take n piece) at (at + n) None (append-nil (take (at + n) w) ∙ after_same w piece at n e); failures = refl }
took_same w piece at n failures (Some b) none e = absurd (cc)

pub took_other : (w piece : List ℕ) (at n failures more : ℕ) (o : Option ℕ) → is_some o ≡ false → take n (drop at w) ≡ take n piece → n < length piece → more ≡ one_more failures
    → TookPart (record { bytes = Some (taken w at o); failures = failures }) (record { bytes = Some (taken w (at + n) (Some (get_or piece n 0))); failures = more }) piece
took_other w piece at n failures more None none e less count = record {
  front = take (n + 1) piece;
  rest = drop (n + 1) piece;
  splits = sym (take-append-drop (n + 1) piece);
  bytes = grows w (take (n + 1) piece) at (at + n) (Some (get_or piece n 0))
      (ap (λ l. l ++ get_or piece n 0 ∷ []) (after_same w piece at n e) ∙ append_assoc (take at w) (take n piece) (get_or piece n 0 ∷ []) ∙ ap (λ l. take at w ++ l) (sym (take_more piece n 0 less)));
  failures = count;
}
took_other w piece at n failures more (Some b) none e less count = absurd (cc)

-- ---- what was taken in all

parts : (xs us ys vs : List ℕ) → length xs ≡ length us → xs ++ ys ≡ us ++ vs → (xs ≡ us) × (ys ≡ vs)
parts [] [] ys vs l e = (refl, e)
parts [] (u ∷ us) ys vs l e = absurd (omega arith)
parts (x ∷ xs) [] ys vs l e = absurd (omega arith)
parts (x ∷ xs) (u ∷ us) ys vs l e =
    let head : x ≡ u = cc in
    let tail : xs ++ ys ≡ us ++ vs = cc in
    let p = parts xs us ys vs (omega arith) tail in
    (ap₂ (λ (a : ℕ) (b : List ℕ). a ∷ b) head p.0, p.1)

opened : (w b front : List ℕ) (at : ℕ) (o : Option ℕ) → taken w at o ≡ taken b 0 None ++ front → (w ≡ b) × (take at w ++ one_or_none o ≡ front)
opened w b front at o e =
    let len : length w ≡ length b = cc in
    let rest : w ++ (take at w ++ one_or_none o) ≡ (b ++ []) ++ front = cc in
    parts w b _ front len (rest ∙ ap (λ l. l ++ front) (append-nil b))

same_eqb : (x y : ℕ) → x ≡ y → (x == y) ≡ true
same_eqb x y e = grind arith

next : (w rest : List ℕ) (at b : ℕ) → at ≤ length w → w ≡ (take at w ++ b ∷ []) ++ rest → is_next w at (Some b) ≡ true
next w rest at b h e =
    let front = length-take-le at w h in
    let whole : w ≡ take at w ++ b ∷ rest = e ∙ append_assoc (take at w) (b ∷ []) rest in
    let less : at < length w = omega (arith, ap length whole, length-append (take at w) (b ∷ rest), front) in
    let here : get_or w at 0 ≡ b = ap₂ (λ (v : List ℕ) (i : ℕ). get_or v i 0) whole (sym front) ∙ get_or-append_seam (take at w) b rest 0 in
    and_from _ _ (lt-ltb at (length w) less) (same_eqb _ _ here)

-- the whole text was taken
pub all_same : (w b text : List ℕ) (at : ℕ) (o : Option ℕ) → taken w at o ≡ taken b 0 None ++ text → at ≤ length w → is_some o ≡ false → at ≡ length b → b ≡ text
all_same w b text at None e h none full =
    let p = opened w b text at None e in
    sym p.0 ∙ sym (take_all at w (omega (arith, ap length p.0))) ∙ sym (append-nil (take at w)) ∙ p.1
all_same w b text at (Some x) e h none full = absurd (cc)

pub all_taken : (w b text : List ℕ) (at : ℕ) (o : Option ℕ) → taken w at o ≡ taken b 0 None ++ text → at ≤ length w → is_next w at o ≡ false → b ≡ text → (is_some o ≡ false) × (at ≡ length b)
all_taken w b text at None e h other same =
    let p = opened w b text at None e in
    let full : take at w ≡ w = sym (append-nil (take at w)) ∙ p.1 ∙ sym same ∙ sym p.0 in
    (refl, omega (arith, ap length full, length-take-le at w h, ap length p.0))
all_taken w b text at (Some x) e h other same =
    let p = opened w b text at (Some x) e in
    let whole : w ≡ (take at w ++ x ∷ []) ++ [] = p.0 ∙ same ∙ sym p.1 ∙ sym (append-nil _) in
    let yes = next w [] at x h whole in
    absurd (cc)

-- a failure means another byte
pub failed_other : (w b text front rest : List ℕ) (at failures : ℕ) (o : Option ℕ) → taken w at o ≡ taken b 0 None ++ front → text ≡ front ++ rest → at ≤ length w → is_next w at o ≡ false
    → may_have_failed o failures ≡ true → failures ≡ one_more 0 → b ≡ text → ⊥
failed_other w b text front rest at failures None e splits h other quiet count same = let zero_is = eqb-true failures 0 quiet in omega arith
failed_other w b text front rest at failures (Some x) e splits h other quiet count same =
    let p = opened w b front at (Some x) e in
    let whole : w ≡ (take at w ++ x ∷ []) ++ rest = p.0 ∙ same ∙ splits ∙ ap (λ l. l ++ rest) (sym p.1) in
    let yes = next w rest at x h whole in
    cc
