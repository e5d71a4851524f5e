-- What the rule of a source with one alternative makes of a fold in a tree over views: the alternative in the place of the first source,
-- behind the plain generators before it.
use Rattle.std.proofs.Common.{ℕ, Bool, false, List, [], ◌∷◌, map, Option, Some, None, option_map}
use Rattle.ess_semantics.specs.declared.words.Fun.{Fun}
use Rattle.ess_semantics.specs.Lists.{and_then}
use Rattle.ess_semantics.specs.Values.{Text}
use Rattle.ess_semantics.specs.Order.{same_text}
use Rattle.ess_semantics.specs.Names.{Names}
use Rattle.ess_semantics.specs.NamesAt.{names_behind}
use Rattle.ess_semantics.specs.Trees.{word, Ex, fun1, Gens}
use Rattle.ess_semantics.specs.Types.{Ty}
use Rattle.ess_semantics.specs.ExpressionJudgements.{forgets_order}
use Rattle.ess_rules_laws.specs.Listings.{Alternative}
use Rattle.ess_rules_laws.specs.ListedSources.{laid_out}
use Rattle.ess_refine_laws.specs.AllRules.{Supply, only_one}
use Rattle.ess_refine_laws.specs.ExtremeAlternatives.{put_alternative}
use Rattle.ess_open_rules_laws.specs.OpenGenerators.{Opened, at_first_open}
use Rattle.ess_open_rules_laws.specs.OpenSources.{all_offered, behind_gens, put_opened, over_one_opened}
use Rattle.ess_seen_laws.specs.ess_bare_laws.Lean.{FoldWord}
use Rattle.ess_seen_laws.specs.Seen.{Bound, so_many, Seen, number, counted, chosen, folded, Going}
use Rattle.ess_seen_laws.specs.Laws.{SeenTreesStayAmongMore, MembersMayBePut, NamesOfSeenTrees}
use Rattle.ess_seen_laws.specs.Putting.{BindsNone}
use Rattle.ess_seen_laws.specs.Apart.{Apart}
use Rattle.ess_seen_stays_laws.proofs.OfTwo.{AreBrought, all-brought}
use Rattle.ess_seen_stays_laws.proofs.Opened.{SetFirst, set_first, ApartBehind, IsOpened, opened-at, listed-put}
use Rattle.ess_seen_stays_laws.proofs.MadePlainly.{Made}
use Rattle.ess_seen_stays_laws.proofs.MadeNested.{when-made, apart-list}

module _ (cells : Text → Option (Bool × List ℕ)) (r : Names Bound) (more : SeenTreesStayAmongMore) (puts : MembersMayBePut)
    (names : NamesOfSeenTrees) (s : Supply) where
  -- The comprehension with the alternative, behind the generators before the source.
  put-opened : {m : Bool} {w : Fun} {z : Text → Bool} {u t : Names Bound} {gs : Gens} (g : Names Ty) (e : Ex) (before : Gens) →
      FoldWord m w → Going cells r before u → ApartBehind cells z s.one e u gs → BindsNone (same_text s.one) e → Seen cells t e m →
      SetFirst cells u gs t → Made cells r m
      (option_map (λ a. fun1 m w (laid_out a)) (only_one (put_opened e before gs (all_offered s g))))
  put-opened {m} {w} {z} {u} {t} g e before x b n q f (set_first {k = k} {y = y} {s = v} {hs = hs} h c) =
      go (all_offered s g v) (all-brought cells more s u n.new g h)
    where
      go : (o : Option (List Alternative)) → AreBrought cells s.one u k o → Made cells r m
          (option_map (λ a. fun1 m w (laid_out a)) (only_one (option_map (map (λ a. behind_gens before (put_alternative y e hs a))) o)))
      go None l = tt
      go (Some []) l = absurd l
      go (Some (a ∷ [])) l =
          let i = listed-put cells more puts names x a l.0 n q c f in
          folded x (puts.appended cells r u i.behind before _ b i.going) i.seen
      go (Some (a ∷ i ∷ j)) l = tt

  opened : (z : Text → Bool) {m : Bool} {w : Fun} {t : Names Bound} (g : Names Ty) (e : Ex) → FoldWord m w →
      BindsNone (same_text s.one) e → Seen cells t e m → (o : Option Opened) → IsOpened cells z s.one e r t o → Made cells r m
      (option_map (λ a. fun1 m w (laid_out a))
      (only_one (and_then o (λ t. put_opened e t.before t.after (all_offered s (names_behind t.before g))))))
  opened z g e x q f None h = tt
  opened z g e x q f (Some p) h = put-opened (names_behind p.before g) e p.before x h.before h.apart q f h.first

  chosen-opened : {x : Ex} {m : Bool} (g : Names Ty) → Seen cells r x m →
      Made cells r false (over_one_opened s g (fun1 false Fun.ToInt x))
  chosen-opened g number = tt
  chosen-opened g (counted so_many) = tt
  chosen-opened g f = tt

  -- So it is with a view, an intersection and a difference behind other generators.
  pub over-one-source : {e : Ex} {m : Bool} (g : Names Ty) → Seen cells r e m → Apart s.one r e → Made cells r m (over_one_opened s g e)
  over-one-source g (counted so_many) n = tt
  over-one-source g (chosen f) n = chosen-opened g f
  over-one-source g (folded {m = m} {f = w} {e = e} {gs = gs} v k f) n =
      when-made cells r m (forgets_order (word w)) _
      (opened n.declared g e v n.unbound.0.0 f (at_first_open gs) (opened-at cells n.declared s.one e k (apart-list cells r n)))
  over-one-source g f n = tt
