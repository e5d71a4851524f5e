-- Lemmas on the bytes that a sink took.
use Rattle.std.proofs.Common.{◌≡◌, ℕ, List, [], ◌++◌, ◌+◌, ◌-◌, length, take, drop, Option, None, Some, refl, sym, ap, ◌∙◌}
use Rattle.std.proofs.lemmas.List.{append_assoc, append-nil, length-drop}
use Rattle.std.proofs.Math.Seq.{take-add, take-length}
use Rattle.ess_io.specs.Sinks.{grown}

-- nothing more leaves the bytes
pub grown-nil : (held : Option (List ℕ)) → grown held [] ≡ held
grown-nil None = refl
grown-nil (Some held) = ap (λ xs. Some xs) (append-nil held)

-- some bytes and then some more
pub grown-grown : (held : Option (List ℕ)) (some more : List ℕ) → grown (grown held some) more ≡ grown held (some ++ more)
grown-grown None some more = refl
grown-grown (Some held) some more = ap (λ xs. Some xs) (append_assoc held some more)

-- the first bytes of a text, and then the next ones
pub grown-take-add : (held : Option (List ℕ)) (n m : ℕ) (text : List ℕ)
    → grown (grown held (take n text)) (take m (drop n text)) ≡ grown held (take (n + m) text)
grown-take-add held n m text = grown-grown held (take n text) (take m (drop n text)) ∙ ap (grown held) (sym (take-add n m text))

-- the slice from a place on is what is left behind that place
pub take-rest : (n : ℕ) (text : List ℕ) → take (length text - n) (drop n text) ≡ drop n text
take-rest n text = ap (λ k. take k (drop n text)) (sym (length-drop n text)) ∙ take-length (drop n text)
