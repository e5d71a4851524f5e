-- Runs that are found from the first number to the last.
use Rattle.std.proofs.Common.{◌≡◌, refl, sym, ap, ◌∙◌, Bool, true, false, if◌then◌else◌, List, [], ◌∷◌, ◌++◌, ℤ, pos, ◌+ℤ◌}
use Rattle.std.specs.Ordering.{int_eq}
use Rattle.ess_grammar.specs.ValueTexts.{Run, before_runs}
use Rattle.ess_values.specs.Printing.{run_before, runs_before}
use Rattle.std.proofs.lemmas.List.{append_assoc}
use Rattle.ess_values.specs.declared.runs.Run as coded
use Rattle.ess_values.specs.Runs.{pure_run, pure_runs}

pub runs_behind : (rs : List Run) (r : Run) (ss : List Run) → runs_before (rs ++ r ∷ []) ss ≡ rs ++ run_before r ss
runs_behind [] r ss = refl
runs_behind (q ∷ []) r ss = refl
runs_behind (q ∷ p ∷ rs) r ss = ap (λ ts. q ∷ ts) (runs_behind (p ∷ rs) r ss)

pub runs_end : (rs : List Run) → runs_before rs [] ≡ rs
runs_end [] = refl
runs_end (r ∷ []) = refl
runs_end (r ∷ s ∷ rs) = ap (λ ts. r ∷ ts) (runs_end (s ∷ rs))

alone : (n : ℤ) (ss : List Run) → run_before (n, n) ss ≡ before_runs n ss
alone n [] = refl
alone n (s ∷ ss) = refl

longer : (f l n : ℤ) (ss : List Run) → int_eq (l +ℤ pos 1) n ≡ true → run_before (f, n) ss ≡ run_before (f, l) (before_runs n ss)
longer f l n [] e = ap (λ b. if b then (f, n) ∷ [] else (f, l) ∷ (n, n) ∷ []) (sym e)
longer f l n (s ∷ ss) e = go (int_eq (n +ℤ pos 1) s.0)
  where
    go : (b : Bool) → (if b then (f, s.1) ∷ ss else (f, n) ∷ s ∷ ss) ≡ run_before (f, l) (if b then (n, s.1) ∷ ss else (n, n) ∷ s ∷ ss)
    go true = ap (λ c. if c then (f, s.1) ∷ ss else (f, l) ∷ (n, s.1) ∷ ss) (sym e)
    go false = ap (λ c. if c then (f, n) ∷ s ∷ ss else (f, l) ∷ (n, n) ∷ s ∷ ss) (sym e)

apart : (r : Run) (n : ℤ) (ss : List Run) → int_eq (r.1 +ℤ pos 1) n ≡ false → r ∷ before_runs n ss ≡ run_before r (before_runs n ss)
apart r n [] e = ap (λ b. if b then (r.0, n) ∷ [] else r ∷ (n, n) ∷ []) (sym e)
apart r n (s ∷ ss) e = go (int_eq (n +ℤ pos 1) s.0)
  where
    go : (b : Bool) → r ∷ (if b then (n, s.1) ∷ ss else (n, n) ∷ s ∷ ss) ≡ run_before r (if b then (n, s.1) ∷ ss else (n, n) ∷ s ∷ ss)
    go true = ap (λ c. if c then (r.0, s.1) ∷ ss else r ∷ (n, s.1) ∷ ss) (sym e)
    go false = ap (λ c. if c then (r.0, n) ∷ s ∷ ss else r ∷ (n, n) ∷ s ∷ ss) (sym e)

mapped_end : (rs : List coded.Run) (r : coded.Run) → pure_runs (rs ++ r ∷ []) ≡ pure_runs rs ++ pure_run r ∷ []
mapped_end [] r = refl
mapped_end (q ∷ rs) r = ap (λ ts. pure_run q ∷ ts) (mapped_end rs r)

before_end : (rs : List coded.Run) (r : coded.Run) (ss : List Run) → runs_before (pure_runs (rs ++ r ∷ [])) ss ≡ pure_runs rs ++ run_before (pure_run r) ss
before_end rs r ss = ap (λ ts. runs_before ts ss) (mapped_end rs r) ∙ runs_behind (pure_runs rs) (pure_run r) ss

-- The run from a number to a number.
abbrev run_to : ℤ → ℤ → coded.Run
run_to f l = record { first = f; last = l }

pub grown : (old new : List coded.Run) (r : coded.Run) (n : ℤ) (ss : List Run) → new ≡ old ++ record { first = r.first; last = n } ∷ [] → int_eq (r.last +ℤ pos 1) n ≡ true
    → runs_before (pure_runs new) ss ≡ runs_before (pure_runs (old ++ r ∷ [])) (before_runs n ss)
grown old new r n ss e h =
    ap (λ t. runs_before (pure_runs t) ss) e ∙ before_end old (run_to r.first n) ss
    ∙ ap (λ t. pure_runs old ++ t) (longer r.first r.last n ss h) ∙ sym (before_end old r (before_runs n ss))

pub begun : (old mid new : List coded.Run) (r : coded.Run) (n : ℤ) (ss : List Run) → mid ≡ old ++ r ∷ [] → new ≡ mid ++ record { first = n; last = n } ∷ [] → int_eq (r.last +ℤ pos 1) n ≡ false
    → runs_before (pure_runs new) ss ≡ runs_before (pure_runs (old ++ r ∷ [])) (before_runs n ss)
begun old mid new r n ss d e h =
    ap (λ t. runs_before (pure_runs t) ss) (e ∙ ap (λ t. t ++ run_to n n ∷ []) d) ∙ before_end (old ++ r ∷ []) (run_to n n) ss
    ∙ ap (λ t. pure_runs (old ++ r ∷ []) ++ t) (alone n ss)
    ∙ ap (λ t. t ++ before_runs n ss) (mapped_end old r)
    ∙ append_assoc (pure_runs old) (pure_run r ∷ []) (before_runs n ss)
    ∙ ap (λ t. pure_runs old ++ t) (apart (pure_run r) n ss h) ∙ sym (before_end old r (before_runs n ss))
