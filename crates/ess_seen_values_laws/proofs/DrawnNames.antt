-- Generators of trees over views bind names of the types that their bounds tell, where tables meet the structures.
use Rattle.std.proofs.Common.{◌≡◌, refl, sym, subst, ℕ, Bool, true, false, if◌then◌else◌, List, [], ◌∷◌, Option, Some, None}
use Rattle.std.specs.Prelude.{IsTrue, is_some}
use Rattle.std.specs.List.{list_all}
use Rattle.ess_semantics.specs.Values.{Text, Value, to_list, itself}
use Rattle.ess_semantics.specs.Order.{same_text}
use Rattle.ess_semantics.specs.Collections.{rises}
use Rattle.ess_semantics.specs.Names.{Names, look}
use Rattle.ess_semantics.specs.Trees.{Pat, name_pat, Ex, Exs, number_ex, truth_ex, name_ex, node_ex, matrix_ex, comp_ex, cell_ex, seen_ex, no_exs, more_exs, Gens, no_gens, over, from, cond, Dom, bool_dom, int_dom}
use Rattle.ess_semantics.specs.Types.{Ty, type_of_dom, bind_types}
use Rattle.ess_semantics.specs.Typing.{source_ty}
use Rattle.ess_semantics.specs.Typed.{Typed}
use Rattle.ess_semantics.specs.TypeMembers.{is_of, is_of_type}
use Rattle.ess_semantics.specs.StaysAt.{OverStays}
use Rattle.ess_semantics.specs.Meaning.{Env, meaning, with_pat}
use Rattle.ess_semantics.specs.Meets.{Meets}
use Rattle.ess_semantics.specs.Contexts.{Each, EachIn}
use Rattle.ess_semantics.proofs.Tests.{and-left, and-right}
use Rattle.ess_types_laws.proofs.SoundEnvs.{over-typed}
use Rattle.ess_rules_laws.specs.SlotListings.{slots_dom}
use Rattle.ess_seen_laws.specs.Seen.{Kind, kind_ty, Bound, bound_types, Counted, so_many, from_to, from_0, subsets, none_below, Places, no_place, at_slot, SetTerm, view, drawn, combined, Seen, number, truth, named, counted, figure, flag, atom, one, two, chosen, folded, of_items, size, within, set_within, compared, Listed, last_item, item_before, Indices, no_index, one_index, Going, at_end, through, through_slots, among, where_holds, truths, numbers}
use Rattle.ess_seen_laws.proofs.Types.{source-said}
use Rattle.ess_seen_values_laws.proofs.Marks.{IsSet, set-value}

-- ---- one more name

-- A name more that has a value of its type.
pub typed-more : (g : Names Ty) (env : Env) (a : Text) (t : Ty) (v : Value) → Typed g env → IsTrue (is_of_type t env v) →
    Typed ((a, t) ∷ g) (with_pat (name_pat a) v env)
typed-more g env a t v f h b u w q r = go (same_text a b) q r
  where
    go : (c : Bool) → (if c then Some t else look g b) ≡ Some u → (if c then Some v else look env.vals b) ≡ Some w →
        IsTrue (is_of_type u env w)
    go true q r =
        let i : t ≡ u = cc in
        let j : v ≡ w = cc in subst (λ z. IsTrue (is_of_type u env z)) j (subst (λ z. IsTrue (is_of_type z env v)) i h)
    go false q r = f b u w q r

-- ---- members of sets

each-member : (xs : List Value) (P : Value → Bool) (Q : Value → Type 0) → ((v : Value) → P v ≡ true → Q v) → list_all P xs ≡ true →
    Each xs Q
each-member [] P Q f h = tt
each-member (x ∷ xs) P Q f h =
    (f x (and-left (P x) (list_all P xs) h), each-member xs P Q f (and-right (P x) (list_all P xs) h))

module _ (cells : Text → Option (Bool × List ℕ)) where
  -- What is drawn from a set has the type of its kind.
  pub drawn-typed : {r : Names Bound} {e : Ex} {k : Kind} → SetTerm cells r e k → (a : Text) (env : Env) → Typed (bound_types r) env →
      Meets e env → EachIn (meaning e env) (λ v. Typed ((a, kind_ty k) ∷ bound_types r) (with_pat (name_pat a) v env))
  drawn-typed {r} {e} {k} f a env t m = go (meaning e env) refl
    where
      P : Value → Type 0
      P v = Typed ((a, kind_ty k) ∷ bound_types r) (with_pat (name_pat a) v env)

      set-typed : (o : Option Value) → IsSet k o env → EachIn o P
      set-typed o s = subst (λ z. EachIn z P) (sym s.is_value)
          (each-member (to_list s.members) (is_of env.positions env.types (kind_ty k)) P
          (λ v h. typed-more (bound_types r) env a (kind_ty k) v t h)
          (and-right (rises itself (to_list s.members)) (list_all (is_of env.positions env.types (kind_ty k)) (to_list s.members)) s.typed))

      go : (o : Option Value) → meaning e env ≡ o → EachIn o P
      go None q = tt
      go (Some v) q = subst (λ z. EachIn z P) q
          (set-typed (meaning e env) (set-value cells r env t f m (subst (λ z. IsTrue (is_some z)) (sym q) refl)))

-- ---- trees

-- The generator over a source keeps types where tables meet the source.
abbrev pub DrawnStays : Names Ty → Pat → Ex → Type 0
DrawnStays g p e = (env : Env) → Typed g env → Meets e env →
    EachIn (meaning e env) (λ v. Typed (bind_types p (source_ty e g) g) (with_pat p v env))

abbrev mutual
  -- Each generator of the tree keeps types so, where names have the types g. Domains are ranges or the truth values.
  pub Drawn : Names Ty → Ex → Type 0
  Drawn g (number_ex n) = Unit {0}
  Drawn g (truth_ex b) = Unit {0}
  Drawn g (name_ex a) = Unit {0}
  Drawn g (node_ex b op es) = DrawnExs g es
  Drawn g (matrix_ex es d) = ⊥
  Drawn g (comp_ex e gs) = DrawnGens g gs (λ h. Drawn h e)
  Drawn g (cell_ex b n es) = DrawnExs g es
  Drawn g (seen_ex r d ns es) = Unit {0}

  -- The same of several trees.
  pub DrawnExs : Names Ty → Exs → Type 0
  DrawnExs g no_exs = Unit {0}
  DrawnExs g (more_exs e es) = Drawn g e × DrawnExs g es

  -- The same of generators, and K of the types behind them.
  pub DrawnGens : Names Ty → Gens → (Names Ty → Type 0) → Type 0
  DrawnGens g no_gens K = K g
  DrawnGens g (over p d gs) K = OverStays Typed g p d × DrawnDom g d × DrawnGens (bind_types p (type_of_dom d) g) gs K
  DrawnGens g (from p e gs) K = DrawnStays g p e × Drawn g e × DrawnGens (bind_types p (source_ty e g) g) gs K
  DrawnGens g (cond c gs) K = Drawn g c × DrawnGens g gs K

  -- The same of a domain.
  pub DrawnDom : Names Ty → Dom → Type 0
  DrawnDom g bool_dom = Unit {0}
  DrawnDom g (int_dom rs es) = DrawnExs g es
  DrawnDom g d = ⊥

module _ (cells : Text → Option (Bool × List ℕ)) where
  set-drawn : {r : Names Bound} {e : Ex} {k : Kind} → SetTerm cells r e k → Drawn (bound_types r) e
  set-drawn (view n f q p) = tt
  set-drawn (drawn q) = tt
  set-drawn (combined c s t) = (set-drawn s, (set-drawn t, tt))

  among-drawn : {r : Names Bound} {e : Ex} {k : Kind} (a : Text) (gs : Gens) (K : Names Ty → Type 0) → SetTerm cells r e k →
      DrawnGens ((a, kind_ty k) ∷ bound_types r) gs K → DrawnGens (bound_types r) (from (name_pat a) e gs) K
  among-drawn {r} {e} {k} a gs K t h = (
    subst (λ z. (env : Env) → Typed (bound_types r) env → Meets e env →
        EachIn (meaning e env) (λ v. Typed ((a, z) ∷ bound_types r) (with_pat (name_pat a) v env))) (sym (source-said cells t))
        (λ env. drawn-typed cells t a env),
    set-drawn t,
    subst (λ z. DrawnGens ((a, z) ∷ bound_types r) gs K) (sym (source-said cells t)) h,
  )

  counted-drawn : (g : Names Ty) {e : Ex} {n : ℕ} → Counted e n → Drawn g e
  counted-drawn g so_many = tt
  counted-drawn g (from_to q) = ((tt, (tt, tt)), (tt, tt))
  counted-drawn g from_0 = (tt, (tt, tt))
  counted-drawn g (subsets c) = (tt, (counted-drawn g c, tt))
  counted-drawn g (none_below c) = ((counted-drawn g c, (tt, tt)), tt)

  places-drawn : {r : Names Bound} {es : Exs} {ks : List ℕ} → Places cells r es ks → DrawnExs (bound_types r) es
  places-drawn no_place = tt
  places-drawn (at_slot q p) = (tt, places-drawn p)

  mutual
    -- Trees over views are so.
    pub seen-drawn : {r : Names Bound} {e : Ex} {m : Bool} → Seen cells r e m → Drawn (bound_types r) e
    seen-drawn number = tt
    seen-drawn truth = tt
    seen-drawn (named q k) = tt
    seen-drawn {r = r} (counted c) = counted-drawn (bound_types r) c
    seen-drawn (figure q p) = places-drawn p
    seen-drawn (flag q i) = indices-drawn i
    seen-drawn (atom q p) = tt
    seen-drawn (one f g) = (seen-drawn g, tt)
    seen-drawn (two f g k) = (seen-drawn g, (seen-drawn k, tt))
    seen-drawn (chosen g) = (seen-drawn g, tt)
    seen-drawn (folded {e = e} v g f) = (going-drawn g e (seen-drawn f), tt)
    seen-drawn (of_items v l) = (listed-drawn l, tt)
    seen-drawn (size t) = (set-drawn t, tt)
    seen-drawn (within f t) = (seen-drawn f, (set-drawn t, tt))
    seen-drawn (set_within s t) = (set-drawn s, (set-drawn t, tt))
    seen-drawn (compared c s t) = (set-drawn s, (set-drawn t, tt))

    listed-drawn : {r : Names Bound} {es : Exs} {m : Bool} → Listed cells r es m → DrawnExs (bound_types r) es
    listed-drawn (last_item f) = (seen-drawn f, tt)
    listed-drawn (item_before f l) = (seen-drawn f, listed-drawn l)

    indices-drawn : {r : Names Bound} {es : Exs} {k : ℕ} → Indices cells r es k → DrawnExs (bound_types r) es
    indices-drawn no_index = tt
    indices-drawn (one_index f i) = (seen-drawn f, indices-drawn i)

    going-drawn : {r t : Names Bound} {gs : Gens} → Going cells r gs t → (e : Ex) → Drawn (bound_types t) e →
        DrawnGens (bound_types r) gs (λ h. Drawn h e)
    going-drawn at_end e h = h
    going-drawn {r = r} (through {a = a} truths k) e h =
        (over-typed (bound_types r) (name_pat a) bool_dom refl, tt, going-drawn k e h)
    going-drawn {r = r} (through {a = a} {d = d} (numbers f g) k) e h =
        (over-typed (bound_types r) (name_pat a) d refl, (seen-drawn f, (seen-drawn g, tt)), going-drawn k e h)
    going-drawn {r = r} (through_slots {a = a} {e = n} c k) e h =
        (over-typed (bound_types r) (name_pat a) (slots_dom n) refl, (tt, (counted-drawn (bound_types r) c, tt)), going-drawn k e h)
    going-drawn (among {a = a} {gs = gs} t k) e h = among-drawn a gs (λ h. Drawn h e) t (going-drawn k e h)
    going-drawn (where_holds c k) e h = (seen-drawn c, going-drawn k e h)
