-- Names under what is known around a place: a tree with plain keys is read under values of names of its own.
use Rattle.std.proofs.Common.{◌≡◌, refl, sym, ap, ◌∙◌, subst, Bool, true, false, ◌||◌, if◌then◌else◌, List, [], ◌∷◌, Option, Some, None}
use Rattle.std.proofs.Common.{option_map}
use Rattle.ess_semantics.specs.Lists.{or_default, list_or_none}
use Rattle.ess_semantics.specs.Values.{Text, Value, number, itself}
use Rattle.ess_semantics.specs.Order.{same_text}
use Rattle.ess_semantics.specs.Names.{Names, look}
use Rattle.ess_semantics.specs.Collections.{rises}
use Rattle.ess_semantics.specs.Trees.{Ends, both_ends, name_pat, Ex, Exs, number_ex, truth_ex, name_ex, node_ex, matrix_ex, comp_ex}
use Rattle.ess_semantics.specs.Trees.{cell_ex, seen_ex, no_exs, more_exs, Dom, bool_dom, int_dom}
use Rattle.ess_semantics.specs.Scoped.{with_names}
use Rattle.ess_semantics.specs.Domains.{Span, booleans, integers}
use Rattle.ess_semantics.specs.Tables.{Table}
use Rattle.ess_semantics.specs.Meaning.{Env, TypeEntry, meaning, meanings, domain_of, members_in, spans_of}
use Rattle.ess_semantics.proofs.MemberLists.{integers-listed}
use Rattle.ess_rules_laws.proofs.Simulation.{Vals, E}
use Rattle.ess_rules_laws.proofs.Agreement.{same_text-equal}
use Rattle.ess_guard_laws.specs.Origins.{Origin, runs_over, anywhere, lies_within, comes_from, is_sure}
use Rattle.ess_guard_laws.proofs.KnownNames as K
use Rattle.ess_keys_laws.specs.Keyed.{Around, nothing_around, key_for, key_now, entered}
use Rattle.ess_keys_laws.proofs.OneKey.{is_key}

-- A number, or a name in scope.
abbrev pub InScope : (Text → Bool) → Ex → Type 0
InScope s (number_ex n) = Unit {0}
InScope s (name_ex a) = s a ≡ true
InScope s e = ⊥

or-first : (a b : Bool) → a ≡ true → a || b ≡ true
or-first true b e = refl
or-first false b e = cc

or-second : (a b : Bool) → b ≡ true → a || b ≡ true
or-second true b e = refl
or-second false b e = e

wider : (s : Text → Bool) (j : Text) (t : Ex) → InScope s t → InScope (with_names s (name_pat j)) t
wider s j (number_ex n) h = tt
wider s j (name_ex a) h = or-first (s a) (same_text j a) h
wider s j (truth_ex b) h = absurd h
wider s j (node_ex b op es) h = absurd h
wider s j (matrix_ex es d) h = absurd h
wider s j (comp_ex e gs) h = absurd h
wider s j (cell_ex b n es) h = absurd h
wider s j (seen_ex r d ns es) h = absurd h

-- A name in scope isn't one that is new.
not-new : (s : Text → Bool) (j a : Text) → s j ≡ false → s a ≡ true → same_text j a ≡ false
not-new s j a n h = go (same_text j a) refl
  where
    go : (b : Bool) → same_text j a ≡ b → same_text j a ≡ false
    go false e = e
    go true e = let p : s j ≡ true = ap s (same_text-equal j a e) ∙ h in cc

-- ---- sure keys

ints-rise : (rs : List Ends) (es : Exs) (env : Env) (is : List Value) → members_in (domain_of (int_dom rs es) env) ≡ Some is
    → rises itself is ≡ true
ints-rise rs es env is e = go (spans_of rs (meanings es env)) e
  where
    go : (o : Option (List Span)) → members_in (option_map integers o) ≡ Some is → rises itself is ≡ true
    go None e = cc
    go (Some ss) e = ap (λ o. rises itself (list_or_none o)) (sym e) ∙ (integers-listed ss).sorted

bools-rise : (is : List Value) → members_in (Some booleans) ≡ Some is → rises itself is ≡ true
bools-rise is e = ap (λ o. rises itself (list_or_none o)) (sym e)

within-rises : (d e : Dom) → lies_within d e ≡ true → (env : Env) (is : List Value) → members_in (domain_of e env) ≡ Some is
    → rises itself is ≡ true
within-rises (int_dom (both_ends ∷ []) (more_exs (number_ex a) (more_exs (number_ex b) no_exs)))
    (int_dom (both_ends ∷ []) (more_exs (number_ex c) (more_exs (number_ex d) no_exs))) t env is e =
    ints-rise (both_ends ∷ []) (more_exs (number_ex c) (more_exs (number_ex d) no_exs)) env is e
within-rises bool_dom bool_dom t env is e = bools-rise is e
within-rises (int_dom rs es) (int_dom ss fs) t env is e = ints-rise ss fs env is e
within-rises d e t env is q = cc

from-rises : (o : Option Origin) (d : Dom) → comes_from o d ≡ true → (env : Env) (is : List Value)
    → members_in (domain_of d env) ≡ Some is → rises itself is ≡ true
from-rises (Some (runs_over c)) d t env is e = within-rises c d t env is e
from-rises (Some anywhere) d t env is e = cc
from-rises None d t env is e = cc

-- The members of a domain in which a key is sure to lie rise.
pub sure-rises : (k : Names Origin) (u : Ex) (d : Dom) → is_sure k u d ≡ true → (env : Env) (is : List Value)
    → members_in (domain_of d env) ≡ Some is
    → rises itself is ≡ true
sure-rises k (number_ex n) (int_dom (both_ends ∷ []) (more_exs (number_ex a) (more_exs (number_ex b) no_exs))) t env is e =
    ints-rise (both_ends ∷ []) (more_exs (number_ex a) (more_exs (number_ex b) no_exs)) env is e
sure-rises k (name_ex a) d t env is e = from-rises (look k a) d t env is e
sure-rises k u d t env is e = cc

module _ (pl : Bool) (ts : List TypeEntry) (cs : Names Table) where
  abbrev M : Vals → Env
  M g = E pl ts cs g

  -- Under what is known, with names in scope: what stands for each name means it, keys are in scope, and names run where they are said to.
  pub record Rel (s : Text → Bool) (c : Around) (g h : Vals) : Type 0 where
    pub values : (a : Text) → meaning (key_for c.keys a) (M h) ≡ look g a
    pub keys_in : (a : Text) (t : Ex) → look c.keys a ≡ Some t → (s a ≡ true) × InScope s t
    pub known : K.Known pl ts cs c.origins h
    pub names_in : (a : Text) (d : Dom) → look c.origins a ≡ Some (runs_over d) → s a ≡ true

  -- Nothing is bound.
  pub rel-nothing : (s : Text → Bool) (g : Vals) → Rel s nothing_around g g
  rel-nothing s g = record {
    values = λ a. refl;
    keys_in = λ a t e. cc;
    known = K.known-none pl ts cs g;
    names_in = λ a d e. cc;
  }

  -- A key that is sure to lie in a domain is there, and in scope.
  pub sure-there : (k : Names Origin) (u : Ex) (d : Dom) (h : Vals) → K.Known pl ts cs k h → is_sure k u d ≡ true
      → (w : Value) × (meaning u (M h) ≡ Some w)
  sure-there k (number_ex n) d h r t = (number n, refl)
  sure-there k (name_ex a) d h r t = go (look k a) refl t
    where
      go : (o : Option Origin) → look k a ≡ o → comes_from o d ≡ true → (w : Value) × (look h a ≡ Some w)
      go (Some (runs_over c)) q t = let v = r a c q in (v.0, v.1)
      go (Some anywhere) q t = cc
      go None q t = cc
  sure-there k u d h r t = cc

  pub sure-scope : (s : Text → Bool) (c : Around) (g h : Vals) → Rel s c g h → (u : Ex) (d : Dom) → is_sure c.origins u d ≡ true
      → InScope s u
  sure-scope s c g h r (number_ex n) d t = tt
  sure-scope s c g h r (name_ex a) d t = go (look c.origins a) refl t
    where
      go : (o : Option Origin) → look c.origins a ≡ o → comes_from o d ≡ true → s a ≡ true
      go (Some (runs_over e)) q t = r.names_in a e q
      go (Some anywhere) q t = cc
      go None q t = cc
  sure-scope s c g h r u d t = cc

  -- What stands for a key means it.
  pub key-value : (s : Text → Bool) (c : Around) (g h : Vals) → Rel s c g h → (j : Text) (t : Ex) → is_key j t ≡ true
      → meaning t (M g) ≡ meaning (key_now c.keys t) (M h)
  key-value s c g h r j (number_ex n) e = refl
  key-value s c g h r j (name_ex a) e = sym (r.values a)
  key-value s c g h r j t e = cc

  -- ---- behind generators

  -- Behind one whose name has a key.
  pub rel-key : (s : Text → Bool) (c : Around) (g h : Vals) (j : Text) (d : Dom) (t : Ex) (w : Value) → Rel s c g h → InScope s t
      → meaning t (M h) ≡ Some w → Rel (with_names s (name_pat j)) (entered c (name_pat j) d (Some t)) ((j, w) ∷ g) h
  rel-key s c g h j d t w r i m = record {
    values = λ a. value (same_text j a) a (r.values a);
    keys_in = λ a u e. inside (same_text j a) a u refl e (r.keys_in a u);
    known = r.known;
    names_in = λ a e q. or-first (s a) (same_text j a) (r.names_in a e q);
  }
    where
      value : (b : Bool) (a : Text) → meaning (key_for c.keys a) (M h) ≡ look g a
          → meaning (or_default (if b then Some t else look c.keys a) (name_ex a)) (M h) ≡ (if b then Some w else look g a)
      value true a e = m
      value false a e = e

      inside : (b : Bool) (a : Text) (u : Ex) → same_text j a ≡ b → (if b then Some t else look c.keys a) ≡ Some u
          → (look c.keys a ≡ Some u → (s a ≡ true) × InScope s u)
          → (with_names s (name_pat j) a ≡ true) × InScope (with_names s (name_pat j)) u
      inside true a u q e f = (
        or-second (s a) (same_text j a) q,
        subst (InScope (with_names s (name_pat j))) (ap (λ o. elim o [ None ↦ t | Some z ↦ z ]) e)
            (wider s j t i),
      )
      inside false a u q e f = let p = f e in (or-first (s a) (same_text j a) p.0, wider s j u p.1)

  plain-stays : (s : Text → Bool) (j : Text) (t : Ex) (v : Value) (h : Vals) → s j ≡ false → InScope s t
      → meaning t (M ((j, v) ∷ h)) ≡ meaning t (M h)
  plain-stays s j (number_ex n) v h n' i = refl
  plain-stays s j (name_ex a) v h n i = ap (λ b. if b then Some v else look h a) (not-new s j a n i)
  plain-stays s j (truth_ex b) v h n i = absurd i
  plain-stays s j (node_ex b op es) v h n i = absurd i
  plain-stays s j (matrix_ex es d) v h n i = absurd i
  plain-stays s j (comp_ex e gs) v h n i = absurd i
  plain-stays s j (cell_ex b c es) v h n i = absurd i
  plain-stays s j (seen_ex r d ns es) v h n i = absurd i

  -- Behind one whose name has none.
  pub rel-over : (s : Text → Bool) (c : Around) (g h : Vals) (j : Text) (d : Dom) (v : Value) → Rel s c g h → s j ≡ false
      → K.Lies pl ts cs d v → Rel (with_names s (name_pat j)) (entered c (name_pat j) d None) ((j, v) ∷ g) ((j, v) ∷ h)
  rel-over s c g h j d v r n l = record {
    values = λ a. value (look c.keys a) a refl (r.values a);
    keys_in = λ a t e. let p = r.keys_in a t e in (or-first (s a) (same_text j a) p.0, wider s j t p.1);
    known = K.known-over pl ts cs (name_pat j) d v c.origins h l r.known;
    names_in = λ a e q. named (same_text j a) a e refl q;
  }
    where
      value : (o : Option Ex) (a : Text) → look c.keys a ≡ o → meaning (or_default (look c.keys a) (name_ex a)) (M h) ≡ look g a
          → meaning (or_default (look c.keys a) (name_ex a)) (M ((j, v) ∷ h)) ≡ look ((j, v) ∷ g) a
      value None a q e =
          ap (λ o. meaning (or_default o (name_ex a)) (M ((j, v) ∷ h))) q
          ∙ ap (λ x. if same_text j a then Some v else x) (sym (ap (λ o. meaning (or_default o (name_ex a)) (M h)) q) ∙ e)
      value (Some t) a q e =
          let p = r.keys_in a t q in
          ap (λ o. meaning (or_default o (name_ex a)) (M ((j, v) ∷ h))) q
          ∙ plain-stays s j t v h n p.1
          ∙ sym (ap (λ o. meaning (or_default o (name_ex a)) (M h)) q) ∙ e
          ∙ sym (ap (λ b. if b then Some v else look g a) (not-new s j a n p.0))

      named : (b : Bool) (a : Text) (e : Dom) → same_text j a ≡ b
          → (if b then Some (runs_over d) else look c.origins a) ≡ Some (runs_over e)
          → with_names s (name_pat j) a ≡ true
      named true a e q p = or-second (s a) (same_text j a) q
      named false a e q p = or-first (s a) (same_text j a) (r.names_in a e p)
