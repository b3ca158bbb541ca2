-- The writing of what an iterator gives, up to its end or to a failure.
use Rattle.std.specs.Prelude.{Option, Some, None}
use Rattle.std.proofs.Common.{◌≡◌, ℕ, List, [], ◌∷◌, ◌++◌, map, refl, sym, subst, ◌∙◌, ap, append_assoc, codes}
use Rattle.std.specs.Iterator.{Yields}
use Rattle.sinks.specs.Seen.{Seen}
use Rattle.sinks.specs.Texts.{after_comma, after_commas, framed, joined, separator}
use Rattle.sinks.specs.Writes.{TookAll, TookPart}
use Rattle.sinks.specs.Stops.{WritesAll, StopsAtValue, StopsIn, in_head, in_value, in_tail, FailedIn, of_all, of_some}
use Rattle.sinks.proofs.Writes.{all_none, all_all, all_part, part_more}
use Rattle.sinks.proofs.Items.{one_more_text, separator_after}

-- one more value was given
yields_more : {S T : Type 0} (steps : S → Option T → S → Type 0) (s : S) (xs : List T) (t : S) (x : T) (u : S) → Yields steps s xs t → steps t (Some x) u → Yields steps s (xs ++ (x ∷ [])) u
yields_more {S} {T} steps s [] t x u y p = let P : S → Type 0 = λ k. steps k (Some x) u in (u, subst P (sym y) p, refl)
yields_more {S} {T} steps s (z ∷ xs) t x u y p = (y.0, y.1, yields_more steps y.0 xs t x u y.2 p)

-- the values given so far are written, and what stands before the next is known
pub record SoFar {S T : Type 0} (steps : S → Option T → S → Type 0) (f : T → List ℕ) (before : List ℕ) (s t : S) (old new : Seen) : Type 0 where
  pub given : List T
  pub asked : Yields steps s given t
  pub took : TookAll old new (joined f given)
  pub next : before ≡ separator given

pub so_far_start : {S T : Type 0} {steps : S → Option T → S → Type 0} {f : T → List ℕ} {s : S} {a : Seen} → SoFar steps f [] s s a a
so_far_start {S} {T} {steps} {f} {s} {a} = record { given = []; asked = refl; took = all_none a; next = refl }

pub so_far_more : {S T : Type 0} {steps : S → Option T → S → Type 0} {f : T → List ℕ} {before : List ℕ} {s t u : S} {a b c : Seen} (x : T) → SoFar steps f before s t a b → steps t (Some x) u → TookAll b c (before ++ f x) → SoFar steps f (codes ",") s u a c
so_far_more {S} {T} {steps} {f} {before} {s} {t} {u} {a} {b} {c} x p y q =
    let P : List ℕ → Type 0 = λ l. TookAll a c l in
    record {
      given = p.given ++ (x ∷ []);
      asked = yields_more steps s p.given t x u p.asked y;
      took = subst P (ap (λ l. joined f p.given ++ (l ++ f x)) p.next ∙ sym (one_more_text f p.given x)) (all_all p.took q);
      next = separator_after p.given x;
    }

pub so_far_stops : {S T : Type 0} {steps : S → Option T → S → Type 0} {f : T → List ℕ} {before : List ℕ} {s t u : S} {a b c : Seen} (x : T) → SoFar steps f before s t a b → steps t (Some x) u → TookPart b c (before ++ f x) → StopsAtValue steps f s u a c
so_far_stops {S} {T} {steps} {f} {before} {s} {t} {u} {a} {b} {c} x p y q =
    let P : List ℕ → Type 0 = λ l. TookPart b c l in
    record {
      given = p.given;
      last = x;
      asked = yields_more steps s p.given t x u p.asked y;
      took = record { between = b; took = p.took; part = subst P (ap (λ l. l ++ f x) p.next) q };
    }

pub so_far_ends : {S T : Type 0} {steps : S → Option T → S → Type 0} {f : T → List ℕ} {before : List ℕ} {s t u : S} {a b : Seen} → SoFar steps f before s t a b → steps t None u → WritesAll steps f s u a b
so_far_ends {S} {T} {steps} {f} {before} {s} {t} {u} {a} {b} p y = record { given = p.given; asked = (t, p.asked, y); took = p.took }

-- the text behind some values
others_text : {X : Type 0} (f : X → List ℕ) (xs ys : List X) → after_commas f (xs ++ ys) ≡ after_commas f xs ++ after_commas f ys
others_text f [] ys = refl
others_text f (x ∷ xs) ys = ap (λ l. after_comma f x ++ l) (others_text f xs ys) ∙ sym (append_assoc (after_comma f x) (after_commas f xs) (after_commas f ys))

abbrev rest_text : {X : Type 0} → (X → List ℕ) → List X → List X → List ℕ
rest_text f [] ys = joined f ys
rest_text f (x ∷ xs) ys = after_commas f ys

joined_rest : {X : Type 0} (f : X → List ℕ) (xs ys : List X) → joined f (xs ++ ys) ≡ joined f xs ++ rest_text f xs ys
joined_rest f [] ys = refl
joined_rest f (x ∷ xs) ys = ap (λ l. f x ++ l) (others_text f xs ys) ∙ sym (append_assoc (f x) (after_commas f xs) (after_commas f ys))

framed_rest : {X : Type 0} (f : X → List ℕ) (head : List ℕ) (xs ys : List X) (tail : List ℕ) → framed f head (xs ++ ys) tail ≡ (head ++ joined f xs) ++ (rest_text f xs ys ++ tail)
framed_rest f head xs ys tail =
    ap (λ l. head ++ (l ++ tail)) (joined_rest f xs ys)
    ∙ ap (λ l. head ++ l) (append_assoc (joined f xs) (rest_text f xs ys) tail)
    ∙ sym (append_assoc head (joined f xs) (rest_text f xs ys ++ tail))

part_framed : {X : Type 0} (f : X → List ℕ) (head : List ℕ) (xs ys : List X) (tail : List ℕ) {a b : Seen} → TookPart a b (head ++ joined f xs) → TookPart a b (framed f head (xs ++ ys) tail)
part_framed f head xs ys tail {a} {b} p =
    let P : List ℕ → Type 0 = λ l. TookPart a b l in
    subst P (sym (framed_rest f head xs ys tail)) (part_more (rest_text f xs ys ++ tail) p)

-- a failure in the head, in a value or in the tail is one in the text of what the iterator gives
module _ {S T X : Type 0} {steps : S → Option T → S → Type 0} (v : T → X) (f : T → List ℕ) (h : X → List ℕ) (head tail : List ℕ) (same : (xs : List T) → joined f xs ≡ joined h (map v xs)) where
  all_written : {s t : S} {a b c : Seen} → TookAll a b head → (w : WritesAll steps f s t b c) → TookAll a c (head ++ joined h (map v w.given))
  all_written {s} {t} {a} {b} {c} p w =
      let P : List ℕ → Type 0 = λ l. TookAll a c (head ++ l) in subst P (same w.given) (all_all p w.took)

  value_part : {s t : S} {a b c : Seen} → TookAll a b head → (w : StopsAtValue steps f s t b c) → TookPart a c (head ++ joined h (map v (w.given ++ (w.last ∷ []))))
  value_part {s} {t} {a} {b} {c} p w =
      let P : List ℕ → Type 0 = λ l. TookPart a c (head ++ l) in
      subst P (sym (one_more_text f w.given w.last) ∙ same (w.given ++ (w.last ∷ []))) (all_part p (all_part w.took.took w.took.part))

  pub failed_in : {s t : S} {a c : Seen} → StopsIn steps f head tail s t a c → FailedIn steps v (λ ys. framed h head ys tail) s a c
  failed_in {s} {t} {a} {c} (in_head e p) = of_some [] s refl (λ others. part_more (joined h others ++ tail) p)
  failed_in {s} {t} {a} {c} (in_value mid p w) =
      of_some (w.given ++ (w.last ∷ [])) t w.asked (λ others. part_framed h head (map v (w.given ++ (w.last ∷ []))) others tail (value_part p w))
  failed_in {s} {t} {a} {c} (in_tail mid near p w q) =
      let P : List ℕ → Type 0 = λ l. TookPart a c l in
      of_all w.given (t, w.asked) (subst P (append_assoc head (joined h (map v w.given)) tail) (all_part (all_written p w) q))
