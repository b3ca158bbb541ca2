-- How calls end.
use Rattle.std.proofs.Common.{suc, ◌≡◌, ◌⊎◌, inl, inr, ℕ, ◌≤◌, Bool, true, false, cond, List, length, take, sym, ◌∙◌, ap, subst, arith}
use Rattle.std.specs.declared.alloc.Global.{Global}
use Rattle.std.specs.declared.vec.Vec.{Vec}
use Rattle.std.specs.Result.{IfErr, IfOk}
use Rattle.std.specs.declared.result.Result.{Result}
use Rattle.std.specs.declared.result.Result.TheVariants.{Ok, Err}
use Rattle.c_calls.specs.Ends.{EndsWith, IsDone, IsEnd, IsRefused, EndsWithYesOrNo, Says}
use Rattle.c_calls.specs.declared.outcome.CallOutcome.{CallOutcome}
use Rattle.c_calls.specs.declared.refusal.CallRefusal.{CallRefusal}
use Rattle.c_calls.specs.declared.refusal.CallRefusal.TheVariants.{BadGrid, BadName, BadChoice, NoId, Text, OtherGrid, NoText, BadPlan, NoLayer, OutOfMemory}

-- a refusal ends with one of three statuses
pub says_why : (r : CallRefusal) (o : CallOutcome) (old new : List ℕ) → IsRefused r o old new → (o.status ≡ 2) ⊎ ((o.status ≡ 4) ⊎ (o.status ≡ 5))
says_why BadGrid o old new h = inl h.status
says_why (BadName place) o old new h = inl h.status
says_why BadChoice o old new h = inl h.status
says_why NoId o old new h = inl h.status
says_why (Text place f) o old new (inl h) = inr (inr h.status)
says_why (Text place f) o old new (inr h) = inr (inl h.status)
says_why (OtherGrid place) o old new h = inr (inl h.status)
says_why NoText o old new h = inr (inl h.status)
says_why (BadPlan leaf) o old new h = inr (inl h.status)
says_why NoLayer o old new h = inr (inl h.status)
says_why OutOfMemory o old new h = inr (inr h.status)

why_statuses : (n : ℕ) → (n ≡ 2) ⊎ ((n ≡ 4) ⊎ (n ≡ 5)) → (n ≡ 0) ⊎ ((n ≡ 2) ⊎ ((n ≡ 4) ⊎ ((n ≡ 5) ⊎ (n ≡ 6))))
why_statuses n (inl e) = inr (inl e)
why_statuses n (inr (inl e)) = inr (inr (inl e))
why_statuses n (inr (inr e)) = inr (inr (inr (inl e)))

not_done : (n : ℕ) → (n ≡ 2) ⊎ ((n ≡ 4) ⊎ (n ≡ 5)) → n ≡ 0 → ⊥
not_done n (inl e) h = omega arith
not_done n (inr (inl e)) h = omega arith
not_done n (inr (inr e)) h = omega arith

not_small : (n : ℕ) → (n ≡ 2) ⊎ ((n ≡ 4) ⊎ (n ≡ 5)) → n ≡ 6 → ⊥
not_small n (inl e) h = omega arith
not_small n (inr (inl e)) h = omega arith
not_small n (inr (inr e)) h = omega arith

done_statuses : (n : ℕ) → (n ≡ 0) ⊎ (n ≡ 6) → (n ≡ 0) ⊎ ((n ≡ 2) ⊎ ((n ≡ 4) ⊎ ((n ≡ 5) ⊎ (n ≡ 6))))
done_statuses n (inl e) = inl e
done_statuses n (inr e) = inr (inr (inr (inr e)))

not_usage : (n : ℕ) → (n ≡ 0) ⊎ (n ≡ 6) → n ≡ 2 → ⊥
not_usage n (inl e) h = omega arith
not_usage n (inr e) h = omega arith

not_refused : (n : ℕ) → (n ≡ 0) ⊎ (n ≡ 6) → n ≡ 4 → ⊥
not_refused n (inl e) h = omega arith
not_refused n (inr e) h = omega arith

-- an answer of that text, in the room or longer than the room
pub ends_done : (Answer : List ℕ → Type 0) (Why : CallRefusal → Type 0) (text : List ℕ) (o : CallOutcome) (old new : List ℕ) → Answer text → IsDone text o old new → EndsWith Answer Why o old new
ends_done Answer Why text o old new is d = record {
  statuses = done_statuses o.status d.statuses;
  done = λ s. record {
    fits = subst (λ n. n ≤ length new) (sym d.length) (subst (λ n. length text ≤ n) (sym d.size) (d.fits s));
    answer = subst Answer (sym (ap (λ n. take n new) d.length ∙ d.put s)) is;
  };
  usage = λ s. absurd (not_usage o.status d.statuses s);
  refused = λ s. absurd (not_refused o.status d.statuses s);
  small = λ s. record {
    text = text;
    answer = is;
    length = d.length;
    small = subst (λ n. suc (length old) ≤ n) (sym d.length) (d.small s);
    untouched = d.untouched s;
  };
}

-- a refusal with its reason
pub ends_refused : (Answer : List ℕ → Type 0) (Why : CallRefusal → Type 0) (r : CallRefusal) (o : CallOutcome) (old new : List ℕ) → Why r → IsRefused r o old new → EndsWith Answer Why o old new
ends_refused Answer Why r o old new why says = record {
  statuses = why_statuses o.status (says_why r o old new says);
  done = λ s. absurd (not_done o.status (says_why r o old new says) s);
  usage = λ s. record { refusal = r; why = why; says = says };
  refused = λ s. record { refusal = r; why = why; says = says };
  small = λ s. absurd (not_small o.status (says_why r o old new says) s);
}

-- what was made, or why nothing was
pub ends : (Answer : List ℕ → Type 0) (Why : CallRefusal → Type 0) (made : Result (Vec ℕ Global) CallRefusal) (o : CallOutcome) (old new : List ℕ) →
    IfOk made (λ t. Answer t.items) → IfErr made Why → IfOk made (λ t. IsDone t.items o old new) → IfErr made (λ r. IsRefused r o old new) → EndsWith Answer Why o old new
ends Answer Why (Ok t) o old new is why done says = ends_done Answer Why t.items o old new is done
ends Answer Why (Err r) o old new is why done says = ends_refused Answer Why r o old new why says

verdict_statuses : (n : ℕ) → (n ≡ 2) ⊎ ((n ≡ 4) ⊎ (n ≡ 5)) → (n ≡ 0) ⊎ ((n ≡ 1) ⊎ ((n ≡ 2) ⊎ ((n ≡ 4) ⊎ (n ≡ 5))))
verdict_statuses n (inl e) = inr (inr (inl e))
verdict_statuses n (inr (inl e)) = inr (inr (inr (inl e)))
verdict_statuses n (inr (inr e)) = inr (inr (inr (inr e)))

not_no : (n : ℕ) → (n ≡ 2) ⊎ ((n ≡ 4) ⊎ (n ≡ 5)) → n ≡ 1 → ⊥
not_no n (inl e) h = omega arith
not_no n (inr (inl e)) h = omega arith
not_no n (inr (inr e)) h = omega arith

other : (n m k : ℕ) → n ≡ m → ¬ (m ≡ k) → n ≡ k → ⊥
other n m k e apart f = apart (sym e ∙ f)

-- what was found, or why nothing was found
pub verdicts : (Yes No : Type 0) (Why : CallRefusal → Type 0) (found : Result Bool CallRefusal) (o : CallOutcome) (old new : List ℕ) →
    IfOk found (Says Yes No) → IfErr found Why → IfOk found (λ b. IsEnd (cond b 0 1) 0 0 o) → IfErr found (λ r. IsRefused r o old new) → EndsWithYesOrNo Yes No Why o old new
verdicts Yes No Why (Ok true) o old new is why said says = record {
  statuses = inl said.status;
  yes = λ s. is;
  no = λ s. absurd (other o.status 0 1 said.status (λ e. omega arith) s);
  usage = λ s. absurd (other o.status 0 2 said.status (λ e. omega arith) s);
  refused = λ s. absurd (other o.status 0 4 said.status (λ e. omega arith) s);
}
verdicts Yes No Why (Ok false) o old new is why said says = record {
  statuses = inr (inl said.status);
  yes = λ s. absurd (other o.status 1 0 said.status (λ e. omega arith) s);
  no = λ s. is;
  usage = λ s. absurd (other o.status 1 2 said.status (λ e. omega arith) s);
  refused = λ s. absurd (other o.status 1 4 said.status (λ e. omega arith) s);
}
verdicts Yes No Why (Err r) o old new is why said says = record {
  statuses = verdict_statuses o.status (says_why r o old new says);
  yes = λ s. absurd (not_done o.status (says_why r o old new says) s);
  no = λ s. absurd (not_no o.status (says_why r o old new says) s);
  usage = λ s. record { refusal = r; why = why; says = says };
  refused = λ s. record { refusal = r; why = why; says = says };
}
