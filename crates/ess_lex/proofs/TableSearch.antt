-- A search of a table, entry by entry.
use Rattle.std.proofs.Common.{◌≡◌, ap, ◌∙◌, ℕ, suc, ◌+◌, ◌<◌, add-one, true, false, List, ◌∷◌, length, get_or, drop, drop-cons, Some, if◌then◌else◌}
use Rattle.std.proofs.lemmas.Slice.Eq.{bytes_eq-Decides}
use Rattle.std.specs.Str.{bytes_eq}
use denote.Bor.{Bor}
use Rattle.ess_semantics.specs.Names.{look_by}
use Rattle.ess_grammar.specs.declared.kind.Kind.{Kind}
use Rattle.ess_grammar.specs.Words.{Text}
use Rattle.ess_grammar.specs.Kinds.{token}
use Rattle.ess_lex.specs.Tables.{shown_table}

pub same-text : (s t : Text) → bytes_eq s t ≡ true → s ≡ t
same-text s t h = (bytes_eq-Decides s t).0 h

pub look-here : (e : Bor Text × Kind) (es : List (Bor Text × Kind)) (t : Text) → bytes_eq e.0.now t ≡ true →
    look_by bytes_eq (shown_table (e ∷ es)) t ≡ Some (token e.1 t)
look-here e es t h =
    ap (λ b. if b then Some (token e.1 e.0.now) else look_by bytes_eq (shown_table es) t) h
    ∙ ap (λ s. Some (token e.1 s)) (same-text e.0.now t h)

pub look-past : (e : Bor Text × Kind) (es : List (Bor Text × Kind)) (t : Text) → bytes_eq e.0.now t ≡ false →
    look_by bytes_eq (shown_table (e ∷ es)) t ≡ look_by bytes_eq (shown_table es) t
look-past e es t h = ap (λ b. if b then Some (token e.1 e.0.now) else look_by bytes_eq (shown_table es) t) h

pub look-found : (es : List (Bor Text × Kind)) (i : ℕ) (d : Bor Text × Kind) (t : Text) → i < length es →
    bytes_eq (get_or es i d).0.now t ≡ true →
    look_by bytes_eq (shown_table (drop i es)) t ≡ Some (token (get_or es i d).1 t)
look-found es i d t h k = rw (drop-cons es i d h) (look-here (get_or es i d) (drop (suc i) es) t k)

pub look-passed : (es : List (Bor Text × Kind)) (i : ℕ) (d : Bor Text × Kind) (t : Text) → i < length es →
    bytes_eq (get_or es i d).0.now t ≡ false →
    look_by bytes_eq (shown_table (drop i es)) t ≡ look_by bytes_eq (shown_table (drop (i + 1) es)) t
look-passed es i d t h k = rw (add-one, drop-cons es i d h) (look-past (get_or es i d) (drop (suc i) es) t k)
