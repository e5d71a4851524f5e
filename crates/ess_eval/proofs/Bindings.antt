-- Names that patterns bind.
use Rattle.std.proofs.Common.{◌≡◌, refl, ap, ◌∙◌, ℕ, ◌+◌, ◌≤◌, List, [], ◌∷◌, ◌++◌, map, length, take, drop, arith}
use Rattle.std.proofs.lemmas.List.{drop_all}
use Rattle.ess_semantics.specs.Values.{Value, items_of}
use Rattle.ess_semantics.specs.Names.{Names}
use Rattle.ess_semantics.specs.Operators.{misfit}
use Rattle.ess_semantics.specs.Trees.{Pat, Pats, name_pat, tuple_pat, no_pats, more_pats}
use Rattle.ess_semantics.specs.Meaning.{bind, bind_all, with_pat}
use Rattle.ess_core.specs.ValueViews.{pure_val}
use Rattle.std.proofs.lemmas.List.{reverse-append}
use Rattle.ess_core.specs.TableViews.{pure_binding, pure_bindings}
use Rattle.ess_core.specs.declared.values.Val.{Val}
use Rattle.ess_core.specs.declared.tables.Binding.{Binding}
use Rattle.ess_core.specs.declared.tables.Env.{Env}
use Rattle.ess_eval.specs.Environments.{env_at, named, all_but_last, name_of_last}

-- What a longer list begins with, a still longer one begins with.
pub kept_on : {A : Type 0} → (b0 b1 b2 : List A) → take (length b0) b1 ≡ b0 → take (length b1) b2 ≡ b1 → take (length b0) b2 ≡ b0
kept_on [] b1 b2 h k = refl
kept_on (x ∷ xs) [] b2 h k = cc
kept_on (x ∷ xs) (y ∷ ys) [] h k = cc
kept_on (x ∷ xs) (y ∷ ys) (z ∷ zs) h k =
    let e : take (length xs) ys ≡ xs = cc in
    let f : take (length ys) zs ≡ ys = cc in
    let g : z ≡ x = cc in
    rw (g, kept_on xs ys zs e f) refl

-- Where parts are missing, a pattern is bound to no part.
pub bind_past : (p : Pat) (ps : Pats) (vs : List Val) (i : ℕ) (g : Names Value) → length vs ≤ i
    → bind_all (more_pats p ps) (map pure_val (drop i vs)) g ≡ bind_all ps (map pure_val (drop (i + 1) vs)) (bind p misfit g)
bind_past p ps vs i g h = let k : length vs ≤ i + 1 = omega arith in rw (drop_all i vs h, drop_all (i + 1) vs k) refl

mutual
  -- What a pattern binds stands in front of all else.
  pub bind_before : (p : Pat) (v : Value) (g h : Names Value) → bind p v (g ++ h) ≡ bind p v g ++ h
  bind_before (name_pat a) v g h = refl
  bind_before (tuple_pat ps) v g h = bind_all_before ps (items_of v) g h

  pub bind_all_before : (ps : Pats) (vs : List Value) (g h : Names Value) → bind_all ps vs (g ++ h) ≡ bind_all ps vs g ++ h
  bind_all_before no_pats vs g h = refl
  bind_all_before (more_pats p ps) [] g h = ap (bind_all ps []) (bind_before p misfit g h) ∙ bind_all_before ps [] (bind p misfit g) h
  bind_all_before (more_pats p ps) (v ∷ vs) g h = ap (bind_all ps vs) (bind_before p v g h) ∙ bind_all_before ps vs (bind p v g) h

-- The env of the bindings with those of a pattern.
pub bound_pat : (env : Env) (bs cs : List Binding) (p : Pat) (v : Value) → pure_bindings cs ≡ bind p v (pure_bindings bs)
    → with_pat p v (env_at env bs) ≡ env_at env cs
bound_pat env bs cs p v h = rw (bind_before p v (pure_bindings bs) (pure_bindings env.vals), h) refl

-- ---- the newest binding

pub before_pushed : (cs bs : List Binding) (b : Binding) → cs ≡ bs ++ b ∷ [] → all_but_last cs ≡ bs
before_pushed cs bs b h = ap all_but_last h ∙ go bs
  where
    go : (bs : List Binding) → all_but_last (bs ++ b ∷ []) ≡ bs
    go [] = refl
    go (x ∷ []) = refl
    go (x ∷ y ∷ bs) = ap (λ l. x ∷ l) (go (y ∷ bs))

pub name_pushed : (cs bs : List Binding) (b : Binding) → cs ≡ bs ++ b ∷ [] → name_of_last cs ≡ b.name
name_pushed cs bs b h = ap name_of_last h ∙ go bs
  where
    go : (bs : List Binding) → name_of_last (bs ++ b ∷ []) ≡ b.name
    go [] = refl
    go (x ∷ []) = refl
    go (x ∷ y ∷ bs) = go (y ∷ bs)

-- The env of the bindings with one name more.
pub bound_name : (env : Env) (bs cs : List Binding) (a : List ℕ) (v : Val) → cs ≡ bs ++ named a v ∷ []
    → with_pat (name_pat a) (pure_val v) (env_at env bs) ≡ env_at env cs
bound_name env bs cs a v h =
    let e : pure_bindings cs ≡ (a, pure_val v) ∷ pure_bindings bs =
    ap pure_bindings h ∙ ap (map pure_binding) (reverse-append bs (named a v ∷ [])) in
    rw e refl
