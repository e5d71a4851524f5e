-- Rows of operands, judged one after another.
use Rattle.std.proofs.Common.{◌≡◌, sym, ap, ◌∙◌, ℕ, ◌+◌, ◌<◌, ◌≤◌, List, ◌∷◌, map, drop, length, get_or}
use Rattle.std.proofs.lemmas.List.{at_drop_more, at_drop_all}
use Rattle.ess_semantics.specs.Scopes.{Scope}
use Rattle.ess_core.specs.TreeViews.{exs_of, field_values, pure_ex, pure_exs, pure_field_ex, pure_pair_ex}
use Rattle.ess_core.specs.declared.expressions.Ex.{Ex}
use Rattle.ess_core.specs.declared.expressions.FieldEx.{FieldEx}
use Rattle.ess_core.specs.declared.expressions.PairEx.{PairEx}
use Rattle.ess_core.specs.declared.domains.Dom.TheViews.{out-FieldEx}
use Rattle.ess_core.proofs.PartEquations.{pure_field_ex_is}
use Rattle.ess_types_judging_laws.specs.Judged.{Judged, judged, judged_all}
use Rattle.ess_types_judging_laws.specs.Accumulated.{Several, none_yet, added, several_on, several}

-- Operands judged from the first on.
pub several_by : (v w : Several) (js : List Judged) → w ≡ none_yet → v ≡ several_on js w → v ≡ several js
several_by v w js p q = q ∙ ap (several_on js) p

-- ---- operands

-- What is found of a row of operands, behind others.
abbrev pub on_exs : List Ex → Scope → Several → Several
on_exs es s v = several_on (judged_all (pure_exs es) s) v

pub operands_more : (es : List Ex) (s : Scope) (v w : Several) (i : ℕ) (e : Ex) → i < length es → e ≡ get_or es i e →
    w ≡ added v (judged (pure_ex e) s) →
    on_exs (drop i es) s v ≡ on_exs (drop (i + 1) es) s w
operands_more es s v w i e h is q =
    at_drop_more (λ l. on_exs l s v) es i e h ∙ ap (λ x. on_exs (x ∷ drop (i + 1) es) s v) (sym is)
    ∙ ap (on_exs (drop (i + 1) es) s) (sym q)

pub operands_all : (es : List Ex) (s : Scope) (v : Several) (i : ℕ) → length es ≤ i → on_exs (drop i es) s v ≡ v
operands_all es s v i h = at_drop_all (λ l. on_exs l s v) es i h

-- ---- fields

-- What is found of the values of a row of fields, behind others.
abbrev pub on_fields : List FieldEx → Scope → Several → Several
on_fields fs s v = several_on (judged_all (exs_of (field_values (map pure_field_ex fs))) s) v

field-value : (f : FieldEx) → (pure_field_ex f).1 ≡ pure_ex (out-FieldEx f).ex
field-value f = ap (λ x. x.1) (pure_field_ex_is f)

pub fields_more : (fs : List FieldEx) (s : Scope) (v w : Several) (i : ℕ) (f : FieldEx) → i < length fs → f ≡ get_or fs i f →
    w ≡ added v (judged (pure_ex (out-FieldEx f).ex) s) →
    on_fields (drop i fs) s v ≡ on_fields (drop (i + 1) fs) s w
fields_more fs s v w i f h is q =
    at_drop_more (λ l. on_fields l s v) fs i f h ∙ ap (λ x. on_fields (x ∷ drop (i + 1) fs) s v) (sym is)
    ∙ ap (λ e. on_fields (drop (i + 1) fs) s (added v (judged e s))) (field-value f) ∙ ap (on_fields (drop (i + 1) fs) s) (sym q)

pub fields_all : (fs : List FieldEx) (s : Scope) (v : Several) (i : ℕ) → length fs ≤ i → on_fields (drop i fs) s v ≡ v
fields_all fs s v i h = at_drop_all (λ l. on_fields l s v) fs i h

-- ---- pairs

-- What is found of a row of pairs, behind others.
abbrev pub on_pairs : List PairEx → Scope → Several → Several
on_pairs ps s v = several_on (judged_all (exs_of (map pure_pair_ex ps)) s) v

pub pairs_more : (ps : List PairEx) (s : Scope) (v w : Several) (i : ℕ) (p : PairEx) → i < length ps → p ≡ get_or ps i p →
    w ≡ added v (judged (pure_pair_ex p) s) →
    on_pairs (drop i ps) s v ≡ on_pairs (drop (i + 1) ps) s w
pairs_more ps s v w i p h is q =
    at_drop_more (λ l. on_pairs l s v) ps i p h ∙ ap (λ x. on_pairs (x ∷ drop (i + 1) ps) s v) (sym is)
    ∙ ap (on_pairs (drop (i + 1) ps) s) (sym q)

pub pairs_all : (ps : List PairEx) (s : Scope) (v : Several) (i : ℕ) → length ps ≤ i → on_pairs (drop i ps) s v ≡ v
pairs_all ps s v i h = at_drop_all (λ l. on_pairs l s v) ps i h
