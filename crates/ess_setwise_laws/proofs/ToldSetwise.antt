-- A constraint of the class whose bound names are told apart, with cells and views shown in the place of names, is one of the class; it
-- spells no other numbers, and its names are reserved ones.
use Rattle.std.proofs.Common.{◌≡◌, sym, subst, ℕ, suc, ◌≤◌, ◌<◌, Bool, true, false, List, [], ◌∷◌, ℤ, Option, arith}
use Rattle.ess_semantics.specs.declared.words.Op2.{Op2}
use Rattle.ess_semantics.specs.declared.words.Fun.{Fun}
use Rattle.ess_semantics.specs.Values.{Text}
use Rattle.ess_semantics.specs.Order.{same_text}
use Rattle.ess_semantics.specs.Names.{Names}
use Rattle.ess_semantics.specs.Trees.{Ex, comp_ex, Gens, ex2, fun1}
use Rattle.ess_semantics.specs.Occurrences.{parts_of_gens}
use Rattle.ess_semantics.specs.Substitution.{NamesAreGens}
use Rattle.conjure_model_laws.specs.ToldApart.{reserved, renamed, told, told_gens}
use Rattle.conjure_model_laws.specs.Shown.{Shows, in_place}
use Rattle.ess_chain_names_laws.proofs.ToldNames.{on, ex-up, gens-up}
use Rattle.ess_depth_laws.specs.Below.{is_below, HasNamesBelow}
use Rattle.ess_seen_laws.specs.Seen.{Kind, scalars, Bound, over_a_range, from_a_set}
use Rattle.ess_setwise_laws.proofs.SetwiseTrees.{named, as_shown, Setwise, number, truth, scalar, one, two, chosen, folded, size, within, set_within, compared, Binding, at_end, over_truths, over_numbers, among, where_holds, NoneShown, no_kind, ShownFor, ShowsAll}
use Rattle.ess_setwise_laws.proofs.NameKinds.{Kept, later, bound, below-has}
use Rattle.ess_setwise_laws.proofs.Spellings.{Alike, same-alike, two-alike, alone-alike, node-alike, list-alike}
use Rattle.ess_setwise_laws.proofs.ToldSets.{made, made_gens, made_right, shown-two, shown-compared, shown-in, SpellsShown, AlikeTrees, at-alike, at-names, told-set, told-right}

module _ (sh : Shows) (names : Text → Option Kind) (cells : Text → Option (Bool × List ℕ)) (w : ShowsAll sh names cells) (lim : ℕ)
    (differ : (i j : ℕ) → i < j → j < lim → same_text (reserved j) (reserved i) ≡ false) where
  abbrev R : Names Bound → Ex → Bool → Type 0
  R = Setwise names NoneShown

  abbrev C : Names Bound → Ex → Bool → Type 0
  C = Setwise no_kind (ShownFor sh names cells)

  abbrev K : Names Bound → Names Bound → Names Text → ℕ → Type 0
  K = Kept sh names cells w lim differ

  abbrev N : (ℤ → Bool) → Type 0
  N = SpellsShown sh names cells

  abbrev Trees : Ex → Ex → Type 0
  Trees = AlikeTrees sh names cells

  abbrev Lists : Gens → Gens → Type 0
  Lists gs hs = Alike N (parts_of_gens gs) (parts_of_gens hs)

  -- The tree f with the mark m, made so of e.
  pub record Made (t : Names Bound) (e f : Ex) (m : Bool) : Type 0 where
    pub tree : C t f m
    pub alike : Trees e f
    pub uses : HasNamesBelow lim f

  -- Generators made so, and names behind them.
  pub record MadeGens (t s : Names Bound) (gs : Gens) (u : Names Text) (k : ℕ) : Type 0 where
    pub behind : Names Bound
    pub tree : Binding no_kind (ShownFor sh names cells) t (made_gens sh gs u k) behind
    pub kept : K s behind (told_gens gs u k).1 (told_gens gs u k).2
    pub alike : Lists gs (made_gens sh gs u k)
    pub uses : NamesAreGens (is_below lim) (is_below lim) (made_gens sh gs u k)

  -- An operator on two operands.
  pair-made : (t : Names Bound) (b m : Bool) (o : Op2) (e f e' f' : Ex) → C t (ex2 b o e' f') m → Trees e e' → Trees f f' →
      HasNamesBelow lim e' → HasNamesBelow lim f' → Made t (ex2 b o e f) (ex2 b o e' f') m
  pair-made t b m o e f e' f' c p q n i = record {
    tree = c;
    alike = node-alike N
        (two-alike N p (alone-alike N q));
    uses = (n, (i, tt));
  }

  -- A word on a list.
  fold-made : (t : Names Bound) (b m : Bool) (f : Fun) (e e' : Ex) (gs hs : Gens) → C t (fun1 b f (comp_ex e' hs)) m → Trees e e' →
      Lists gs hs → HasNamesBelow lim e' → NamesAreGens (is_below lim) (is_below lim) hs →
      Made t (fun1 b f (comp_ex e gs)) (fun1 b f (comp_ex e' hs)) m
  fold-made t b m f e e' gs hs c p q n i = record {
    tree = c;
    alike = node-alike N (alone-alike N
        (list-alike N (two-alike N p q)));
    uses = ((n, i), tt);
  }

  mutual
    -- A constraint so made is one of the class.
    pub told-setwise : {r : Names Bound} {e : Ex} {m : Bool} → R r e m → (t : Names Bound) (u : Names Text) (k : ℕ) →
        (told e u k).1 ≤ lim → K r t u k → Made t e (made sh e u k) m
    told-setwise number t u k l x = record { tree = number; alike = same-alike N _; uses = tt }
    told-setwise truth t u k l x = record { tree = truth; alike = same-alike N _; uses = tt }
    told-setwise (scalar {m = m} (named {a = a} h)) t u k l x =
        let z = x.firsts a (scalars m) h in record {
          tree = scalar z;
          alike = at-alike sh names cells w lim differ t a (in_place sh.first (renamed u a)) (scalars m) z;
          uses = at-names sh names cells w lim differ t (in_place sh.first (renamed u a)) (scalars m) x.used z;
        }
    told-setwise (scalar (as_shown h)) t u k l x = absurd h
    told-setwise (one {o = o} s f) t u k l x =
        let p = told-setwise f t u k l x in record {
          tree = one s p.tree;
          alike = node-alike N (alone-alike N p.alike);
          uses = (p.uses, tt);
        }
    told-setwise {r} (two {b = b} {o = o} {x = e} {y = f} s g h) t u k l x =
        let q = (told e u k).1 in
        let p = told-setwise g t u k (on q (told f u q).1 lim (ex-up f u q) l) x in
        let z = told-setwise h t u q l (later sh names cells w lim differ r t u k q (ex-up e u k) x) in
        subst (λ v. Made t (ex2 b o e f) v b) (sym (shown-two sh (told e u k).0 (told f u q).0 s))
        (pair-made t b b o e f (made sh e u k) (made sh f u q) (two s p.tree z.tree) p.alike z.alike p.uses z.uses)
    told-setwise (chosen f) t u k l x =
        let p = told-setwise f t u k l x in record {
          tree = chosen p.tree;
          alike = node-alike N (alone-alike N p.alike);
          uses = (p.uses, tt);
        }
    told-setwise (folded {m = m} {f = f} {e = e} {gs = gs} v g h) t u k l x =
        let q = told_gens gs u k in
        let y = told-binding g t u k (on q.2 (told e q.1 q.2).1 lim (ex-up e q.1 q.2) l) x in
        let z = told-setwise h y.behind q.1 q.2 l y.kept in
        fold-made t m m f e (made sh e q.1 q.2) gs (made_gens sh gs u k) (folded v y.tree z.tree) z.alike y.alike z.uses y.uses
    told-setwise (size h) t u k l x =
        let z = told-set sh names cells w lim differ h t u k x in record {
          tree = size z.tree;
          alike = node-alike N (alone-alike N z.alike);
          uses = (z.uses, tt);
        }
    told-setwise {r} (within {x = e} {s = s} f h) t u k l x =
        let q = (told e u k).1 in
        let p = told-setwise f t u k (on q (told s u q).1 lim (ex-up s u q) l) x in
        let z = told-right sh names cells w lim differ h t u q (later sh names cells w lim differ r t u k q (ex-up e u k) x) in
        subst (λ v. Made t (ex2 true Op2.Member e s) v true) (sym (shown-in sh names h e u k))
        (pair-made t true true Op2.Member e s (made sh e u k) (made_right sh s u q) (within p.tree z.tree) p.alike z.alike p.uses z.uses)
    told-setwise {r} (set_within {a = e} {s = s} f h) t u k l x =
        let q = (told e u k).1 in
        let p = told-set sh names cells w lim differ f t u k x in
        let z = told-right sh names cells w lim differ h t u q (later sh names cells w lim differ r t u k q (ex-up e u k) x) in
        subst (λ v. Made t (ex2 true Op2.Member e s) v true) (sym (shown-in sh names h e u k))
        (pair-made t true true Op2.Member e s (made sh e u k) (made_right sh s u q) (set_within p.tree z.tree) p.alike z.alike p.uses
        z.uses)
    told-setwise {r} (compared {o = o} {s = e} {t = f} c g h) t u k l x =
        let q = (told e u k).1 in
        let p = told-set sh names cells w lim differ g t u k x in
        let z = told-set sh names cells w lim differ h t u q (later sh names cells w lim differ r t u k q (ex-up e u k) x) in
        subst (λ v. Made t (ex2 true o e f) v true) (sym (shown-compared sh (told e u k).0 (told f u q).0 c))
        (pair-made t true true o e f (made sh e u k) (made sh f u q) (compared c p.tree z.tree) p.alike z.alike p.uses z.uses)

    told-binding : {r s : Names Bound} {gs : Gens} → Binding names NoneShown r gs s → (t : Names Bound) (u : Names Text)
        (k : ℕ) → (told_gens gs u k).2 ≤ lim → K r t u k → MadeGens t s gs u k
    told-binding at_end t u k l x =
        record { behind = t; tree = at_end; kept = x; alike = same-alike N []; uses = tt }
    told-binding (over_truths {r = r} {a = a} {gs = gs} n g) t u k l x =
        let v = told_gens gs ((a, reserved k) ∷ u) (suc k) in
        let p : suc k ≤ lim = on (suc k) v.2 lim (gens-up gs ((a, reserved k) ∷ u) (suc k)) l in
        let y = told-binding g ((reserved k, over_a_range true) ∷ t) ((a, reserved k) ∷ u) (suc k) l
        (bound sh names cells w lim differ a (over_a_range true) r t u k (omega (arith, p)) x) in record {
          behind = y.behind;
          tree = over_truths (x.spared k (omega arith) (omega (arith, p))) y.tree;
          kept = y.kept;
          alike = y.alike;
          uses = (below-has lim k (omega (arith, p)), tt, y.uses);
        }
    told-binding (over_numbers {r = r} {a = a} {x = e} {y = f} {gs = gs} n d h g) t u k l x =
        let i = (told e u k).1 in
        let c = (told f u i).1 in
        let v = told_gens gs ((a, reserved c) ∷ u) (suc c) in
        let p : suc c ≤ lim = on (suc c) v.2 lim (gens-up gs ((a, reserved c) ∷ u) (suc c)) l in
        let xi = later sh names cells w lim differ r t u k i (ex-up e u k) x in
        let xc = later sh names cells w lim differ r t u i c (ex-up f u i) xi in
        let low = told-setwise d t u k (on i c lim (ex-up f u i) (omega (arith, p))) x in
        let high = told-setwise h t u i (omega (arith, p)) xi in
        let y = told-binding g ((reserved c, over_a_range false) ∷ t) ((a, reserved c) ∷ u) (suc c) l
        (bound sh names cells w lim differ a (over_a_range false) r t u c (omega (arith, p)) xc) in record {
          behind = y.behind;
          tree = over_numbers (xc.spared c (omega arith) (omega (arith, p))) low.tree high.tree y.tree;
          kept = y.kept;
          alike = two-alike N (two-alike N low.alike
              (alone-alike N high.alike)) y.alike;
          uses = (below-has lim c (omega (arith, p)), (low.uses, (high.uses, tt)), y.uses);
        }
    told-binding (among {r = r} {k = i} {a = a} {s = s} {gs = gs} n h g) t u k l x =
        let c = (told s u k).1 in
        let v = told_gens gs ((a, reserved c) ∷ u) (suc c) in
        let p : suc c ≤ lim = on (suc c) v.2 lim (gens-up gs ((a, reserved c) ∷ u) (suc c)) l in
        let xc = later sh names cells w lim differ r t u k c (ex-up s u k) x in
        let z = told-set sh names cells w lim differ h t u k x in
        let y = told-binding g ((reserved c, from_a_set i) ∷ t) ((a, reserved c) ∷ u) (suc c) l
        (bound sh names cells w lim differ a (from_a_set i) r t u c (omega (arith, p)) xc) in record {
          behind = y.behind;
          tree = among (xc.spared c (omega arith) (omega (arith, p))) z.tree y.tree;
          kept = y.kept;
          alike = two-alike N z.alike y.alike;
          uses = (below-has lim c (omega (arith, p)), z.uses, y.uses);
        }
    told-binding (where_holds {r = r} {e = e} {gs = gs} h g) t u k l x =
        let q = (told e u k).1 in
        let v = told_gens gs u q in
        let p = told-setwise h t u k (on q v.2 lim (gens-up gs u q) l) x in
        let y = told-binding g t u q l (later sh names cells w lim differ r t u k q (ex-up e u k) x) in record {
          behind = y.behind;
          tree = where_holds p.tree y.tree;
          kept = y.kept;
          alike = two-alike N p.alike y.alike;
          uses = (p.uses, y.uses);
        }
