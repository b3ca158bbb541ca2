-- A map in which each entry has its place as its key.
use Rattle.std.proofs.Common.{◌≡◌, ℕ, suc, ◌<◌, Bool, true, false, List, [], ◌∷◌, ◌++◌, length, inl, inr, refl, sym, ap, subst, arith, nat_eq, if◌then◌else◌}
use Rattle.std.proofs.lemmas.Bool.{eqb-true}
use Rattle.std.proofs.lemmas.Map.Entries.{length-keys_of}
use Rattle.std.specs.Map.{keys_of, values_of}
use Rattle.indexmap.specs.IndexMap.{insert_entry}
use Rattle.theory.specs.Lists.{Has}
use Rattle.theory.proofs.Lists.{Has-append}
use Rattle.arcs.specs.Stored.{AreBelow}
use Rattle.lines.proofs.SortedLists.{Contains-from_has, has_from_contains}

module _ {X : Type 0} where
  -- an entry with the next place goes last
  pub pushed : (es : List (ℕ × X)) (v : X) → AreBelow (keys_of es) → insert_entry nat_eq es (length es) v ≡ es ++ ((length es, v) ∷ [])
  pushed es v b = go es (λ k h. subst (λ w. k < w) (length-keys_of es) (b k (Contains-from_has k (keys_of es) h)))
    where
      go : (fs : List (ℕ × X)) → ((k : ℕ) → Has k (keys_of fs) → k < length es) → insert_entry nat_eq fs (length es) v ≡ fs ++ ((length es, v) ∷ [])
      go [] h = refl
      go (e ∷ fs) h = step (nat_eq (length es) e.0) refl (go fs (λ k m. h k (inr m)))
        where
          step : (t : Bool) → nat_eq (length es) e.0 ≡ t → insert_entry nat_eq fs (length es) v ≡ fs ++ ((length es, v) ∷ []) →
              (if t then (e.0, v) ∷ fs else e ∷ insert_entry nat_eq fs (length es) v) ≡ (e ∷ fs) ++ ((length es, v) ∷ [])
          step true q ih = let k : length es ≡ e.0 = eqb-true (length es) e.0 q in let m : e.0 < length es = h e.0 (inl refl) in absurd (omega (arith, k, m))
          step false q ih = ap (λ w. e ∷ w) ih

  pub values_pushed : (es : List (ℕ × X)) (n : ℕ) (v : X) → values_of (es ++ ((n, v) ∷ [])) ≡ values_of es ++ (v ∷ [])
  values_pushed [] n v = refl
  values_pushed (e ∷ es) n v = ap (λ w. e.1 ∷ w) (values_pushed es n v)

  keys_pushed : (es : List (ℕ × X)) (n : ℕ) (v : X) → keys_of (es ++ ((n, v) ∷ [])) ≡ keys_of es ++ (n ∷ [])
  keys_pushed [] n v = refl
  keys_pushed (e ∷ es) n v = ap (λ w. e.0 ∷ w) (keys_pushed es n v)

longer : (ks : List ℕ) (n : ℕ) → length (ks ++ (n ∷ [])) ≡ suc (length ks)
longer [] n = refl
longer (k ∷ ks) n = ap suc (longer ks n)

module _ {X : Type 0} where
  pub below_pushed : (es : List (ℕ × X)) (v : X) → AreBelow (keys_of es) → AreBelow (keys_of (es ++ ((length es, v) ∷ [])))
  below_pushed es v b = subst AreBelow (sym (keys_pushed es (length es) v)) (λ k h.
      elim (Has-append k (keys_of es) (length es ∷ []) (has_from_contains k (keys_of es ++ (length es ∷ [])) h.0 h.1 h.2)) [
        | inl m ↦ (let l : k < length (keys_of es) = b k (Contains-from_has k (keys_of es) m) in subst (λ w. k < w) (sym (longer (keys_of es) (length es))) (omega (arith, l)))
        | inr m ↦ elim m [
          | inl e ↦
              let q : length (keys_of es) ≡ length es = length-keys_of es in
              subst (λ w. k < w) (sym (longer (keys_of es) (length es))) (omega (arith, e, q))
          | inr z ↦ absurd z
        ]
      ])
