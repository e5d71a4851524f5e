-- A root with its source told apart, by its parts.
use Rattle.std.proofs.Common.{◌≡◌, refl, sym, ap, ◌∙◌, ℕ, Bool, true, false, if◌then◌else◌, Option, Some, None, ◌≤◌, []}
use Rattle.std.specs.Prelude.{option_map}
use Rattle.ess_semantics.specs.Values.{Text}
use Rattle.ess_semantics.specs.declared.words.Fun.{Fun}
use Rattle.ess_semantics.specs.Trees.{name_pat, tuple_pat, Ex, no_exs, more_exs, node_ex, word, comp_ex, fun1, Gens, no_gens, over, from, cond}
use Rattle.ess_rules_laws.specs.SpliceRules.{append_gens}
use Rattle.conjure_model_laws.specs.ToldApart.{told}
use Rattle.ess_open_rules_laws.specs.OpenGenerators.{Opened, with_first, opened_here, is_plain_over, at_first_open}
use Rattle.ess_refine_laws.specs.LeavingConditions.{Parted, at_last_condition}
use Rattle.ess_refine_laws.specs.Copies.{opposite_of}
use Rattle.ess_chain_names_laws.proofs.ToldNames.{ex-up, itself}
use Rattle.ess_rules_folds.specs.Forms.{source_parts}
use Rattle.ess_rules.specs.Ruled.{new_source, with_new_source, behind_copy}

-- Generators and a number, with a generator before them.
abbrev put_first : (Gens → Gens) → Gens × ℕ → Gens × ℕ
put_first f r = (f r.0, r.1)

-- What a pattern over a domain leads to, where it is plain or not.
abbrev opened_over : Bool → (Gens → Gens) → Gens → Option Opened → Option Opened
opened_over b f gs o = if b then option_map (with_first f) o else Some (opened_here (f gs))

abbrev told_over : Bool → (Gens → Gens) → Gens → ℕ → Gens × ℕ → Gens × ℕ
told_over b f gs j r = if b then put_first f r else (f gs, j)

-- The source in the second part.
abbrev opened_source : Option (Text × Ex × Gens) → Option Opened → Option (Text × Ex × Gens)
opened_source o None = o
opened_source o (Some t) = source_parts t.after

-- The generators before, and the value told apart.
abbrev put_anew : ℕ → Gens → Text × Ex × Gens → Gens × ℕ
put_anew j hs s = (append_gens hs (from (name_pat s.0) (told s.1 [] j).0 s.2), (told s.1 [] j).1)

module _ (j : ℕ) (f : Gens → Gens) (gs : Gens) (r : Gens × ℕ) where
  -- ---- where all are plain

  over-plain : (b : Bool) (o : Option Opened) → opened_over b f gs o ≡ None → (o ≡ None → r ≡ (gs, j)) → told_over b f gs j r ≡ (f gs, j)
  over-plain true None h k = ap (put_first f) (k refl)
  over-plain true (Some t) h k = cc
  over-plain false o h k = refl

  -- ---- where the first that isn't plain binds no name over a value

  over-other : (b : Bool) (o : Option Opened) (t : Opened) → opened_over b f gs o ≡ Some t → source_parts t.after ≡ None
      → ((u : Opened) → o ≡ Some u → source_parts u.after ≡ None → r ≡ (gs, j)) → told_over b f gs j r ≡ (f gs, j)
  over-other true None t h n k = cc
  over-other true (Some u) t h n k = ap (put_first f) (k u refl (ap (opened_source None) h ∙ n))
  over-other false o t h n k = refl

  -- ---- where it binds one

  over-named : (b : Bool) (o : Option Opened) (t : Opened) (s : Text × Ex × Gens) → opened_over b f gs o ≡ Some t
      → source_parts t.after ≡ Some s
      → source_parts (f gs) ≡ None → ((hs : Gens) (ks : Gens) → f (append_gens hs ks) ≡ append_gens (f hs) ks)
      → ((u : Opened) → o ≡ Some u → source_parts u.after ≡ Some s → r ≡ put_anew j u.before s)
      → told_over b f gs j r ≡ put_anew j t.before s
  over-named true None t s h n d a k = cc
  over-named true (Some u) t s h n d a k =
      ap (put_first f) (k u refl (ap (opened_source None) h ∙ n))
      ∙ ap (λ v. (v, (told s.1 [] j).1)) (a u.before (from (name_pat s.0) (told s.1 [] j).0 s.2))
      ∙ ap (λ v. elim v [ Some w ↦ put_anew j w.before s | None ↦ put_anew j (f u.before) s ]) h
  over-named false o t s h n d a k = let e : None ≡ Some s = sym d ∙ ap (opened_source None) h ∙ n in cc

-- Where all generators are plain they stay.
pub source_plain : (j : ℕ) (gs : Gens) → at_first_open gs ≡ None → new_source j gs ≡ (gs, j)
source_plain j no_gens h = refl
source_plain j (over p d gs) h =
    over-plain j (over p d) gs (new_source j gs) (is_plain_over p d) (at_first_open gs) h (source_plain j gs)
source_plain j (from p t gs) h = cc
source_plain j (cond c gs) h = over-plain j (cond c) gs (new_source j gs) true (at_first_open gs) h (source_plain j gs)

-- Where the first that isn't plain binds no name over a value they stay.
pub source_other : (j : ℕ) (gs : Gens) (t : Opened) → at_first_open gs ≡ Some t → source_parts t.after ≡ None → new_source j gs ≡ (gs, j)
source_other j no_gens t h n = cc
source_other j (over p d gs) t h n =
    over-other j (over p d) gs (new_source j gs) (is_plain_over p d) (at_first_open gs) t h n (source_other j gs)
source_other j (from (name_pat x) e gs) t h n =
    let m : ◌≡◌ {A = Option (Text × Ex × Gens)} (Some (x, e, gs)) None = ap (opened_source None) h ∙ n in cc
source_other j (from (tuple_pat ps) e gs) t h n = refl
source_other j (cond c gs) t h n = over-other j (cond c) gs (new_source j gs) true (at_first_open gs) t h n (source_other j gs)

-- Where it binds one the value is told apart.
pub source_named : (j : ℕ) (gs : Gens) (s : Text × Ex × Gens) (t : Opened) → at_first_open gs ≡ Some t → source_parts t.after ≡ Some s
    → new_source j gs ≡ put_anew j t.before s
source_named j no_gens s t h n = cc
source_named j (over p d gs) s t h n =
    over-named j (over p d) gs (new_source j gs) (is_plain_over p d) (at_first_open gs) t s h n refl (λ hs ks. refl) (source_named j gs s)
source_named j (from (name_pat x) e gs) s t h n =
    ap (λ v. elim v [ Some w ↦ put_anew j w.before (x, e, gs) | None ↦ put_anew j no_gens (x, e, gs) ]) h
    ∙ ap (λ v. elim v [ Some q ↦ put_anew j t.before q | None ↦ put_anew j t.before (x, e, gs) ]) (ap (opened_source None) h ∙ n)
source_named j (from (tuple_pat ps) e gs) s t h n = let m : None ≡ Some s = ap (opened_source None) h ∙ n in cc
source_named j (cond c gs) s t h n =
    over-named j (cond c) gs (new_source j gs) true (at_first_open gs) t s h n refl (λ hs ks. refl) (source_named j gs s)

-- ---- the numbers of the names

over-up : (b : Bool) (f : Gens → Gens) (gs : Gens) (j : ℕ) (r : Gens × ℕ) → j ≤ r.1 → j ≤ (told_over b f gs j r).1
over-up true f gs j r h = h
over-up false f gs j r h = itself j

-- The number behind the names is never before the first one.
pub source_up : (j : ℕ) (gs : Gens) → j ≤ (new_source j gs).1
source_up j no_gens = itself j
source_up j (over p d gs) = over-up (is_plain_over p d) (over p d) gs j (new_source j gs) (source_up j gs)
source_up j (from (name_pat x) e gs) = ex-up e [] j
source_up j (from (tuple_pat ps) e gs) = itself j
source_up j (cond c gs) = source_up j gs

pub root_up : (j : ℕ) (e : Ex) → j ≤ (with_new_source j e).1
root_up j (node_ex m (word f) (more_exs (comp_ex e gs) no_exs)) = source_up j gs
root_up j (comp_ex e gs) = source_up j gs
root_up j e = itself j

of-condition : (j : ℕ) (f : Fun) (e : Ex) (o : Option Parted)
    → j ≤ elim o [ None ↦ j | Some t ↦ (told (opposite_of f e t) [] j).1 ]
of-condition j f e None = itself j
of-condition j f e (Some t) = ex-up (opposite_of f e t) [] j

pub copy_up : (j : ℕ) (e : Ex) → j ≤ behind_copy j e
copy_up j (fun1 false f (comp_ex e gs)) = of-condition j f e (at_last_condition gs)
copy_up j e = itself j

-- ---- what the code makes

module _ (j : ℕ) (e : Ex) (gs : Gens) where
  pub plain_made : at_first_open gs ≡ None → comp_ex e gs ≡ comp_ex e (new_source j gs).0
  plain_made h = ap (λ r. comp_ex e r.0) (sym (source_plain j gs h))

  pub plain_next : at_first_open gs ≡ None → j ≡ (new_source j gs).1
  plain_next h = ap (λ r. r.1) (sym (source_plain j gs h))

  pub other_made : (t : Opened) → at_first_open gs ≡ Some t → source_parts t.after ≡ None → comp_ex e gs ≡ comp_ex e (new_source j gs).0
  other_made t h n = ap (λ r. comp_ex e r.0) (sym (source_other j gs t h n))

  pub other_next : (t : Opened) → at_first_open gs ≡ Some t → source_parts t.after ≡ None → j ≡ (new_source j gs).1
  other_next t h n = ap (λ r. r.1) (sym (source_other j gs t h n))

  pub named_made : (t : Opened) (x : Text) (s : Ex) (rest : Gens) (u : Ex) (hs : Gens) (d f : Ex) → at_first_open gs ≡ Some t
      → source_parts t.after ≡ Some (x, s, rest) → u ≡ (told s [] j).0 → hs ≡ append_gens t.before (from (name_pat x) u rest) → d ≡ e
      → f ≡ comp_ex d hs → f ≡ comp_ex e (new_source j gs).0
  named_made t x s rest u hs d f h n q r p b =
      b ∙ ap (λ v. comp_ex v hs) p ∙ ap (comp_ex e) r ∙ ap (λ v. comp_ex e (append_gens t.before (from (name_pat x) v rest))) q
      ∙ ap (λ v. comp_ex e v.0) (sym (source_named j gs (x, s, rest) t h n))

  pub named_next : (t : Opened) (x : Text) (s : Ex) (rest : Gens) (m : ℕ) → at_first_open gs ≡ Some t
      → source_parts t.after ≡ Some (x, s, rest) → m ≡ (told s [] j).1 → m ≡ (new_source j gs).1
  named_next t x s rest m h n q = q ∙ ap (λ v. v.1) (sym (source_named j gs (x, s, rest) t h n))
