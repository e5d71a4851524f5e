-- Operators on scalars, and on containers and lists, of one operand and of two: they are refined, or something moves.
use Rattle.std.proofs.Common.{◌≡◌, refl, sym, ap, ◌∙◌, subst, Bool, true, false, ◌&&◌, ◌||◌, not, List, [], ◌∷◌, Option, Some, None, option_map}
use Rattle.std.specs.List.{list_all}
use Rattle.ess_semantics.specs.declared.words.Op1.{Op1}
use Rattle.ess_semantics.specs.declared.words.Op2.{Op2}
use Rattle.ess_semantics.specs.Lists.{and_then, all_some}
use Rattle.ess_semantics.specs.Values.{Kind}
use Rattle.ess_semantics.specs.Names.{Names}
use Rattle.ess_semantics.specs.Operators.{iff}
use Rattle.ess_semantics.specs.Trees.{Op, unary, binary, is_truth_op, Ex, Exs, node_ex, ex1, ex2, no_exs, more_exs, bool_dom}
use Rattle.ess_semantics.specs.Types.{Ty, Tys, bool_ty, int_ty, compound, join, fit}
use Rattle.ess_semantics.specs.OperatorTypes.{type_of_op, type_of_binary, subtracted, compared, lex_compared}
use Rattle.ess_semantics.specs.Typing.{type_of, types_of}
use Rattle.ess_semantics.specs.Contexts.{Ins, hole, in_operand, fill_exs}
use Rattle.ess_semantics.specs.NamesAt.{names_at_exs}
use Rattle.ess_semantics.specs.Refined.{is_scalar_op, is_list_op, are_refined, is_refined_list, are_refined_lists}
use Rattle.ess_semantics.proofs.Tests.{and-left, and-right, and-both}
use Rattle.ess_rules_laws.specs.FoldRules.{is_laid_open}
use Rattle.ess_rules_laws.specs.ListRules.{is_lex}
use Rattle.ess_rules_laws.specs.Progress.{is_parted, is_abstract}
use Rattle.ess_rules_laws.proofs.Progress.{operators-have}
use Rattle.ess_refine_laws.specs.AllRules.{Supply}
use Rattle.ess_refine_laws.proofs.RulesFire.{fires-at}
use Rattle.ess_refine_laws.specs.ScalarItems.{is_scalar, has_scalar_items}
use Rattle.ess_refine_laws.specs.Progress.{is_known, have_scalar_items, is_judged, are_judged, Moves, by_a_rule, Work, Progress, is_done, goes_on}
use Rattle.ess_refine_laws.proofs.ScalarOperands.{known-is, fits-none, compared-none, subtracted-none, alone-type, pair-type, many-types, one-scalar, never-one, scalar-there}
use Rattle.ess_refine_laws.proofs.OpenLists.{open-type, lex-scalars, judged-items, typed-there, second-there}
use Rattle.ess_refine_laws.proofs.NeverScalars.{no, or-left, or-right, two-alike, two-included, two-united, one-all, two-all, scalars}

-- ---- parts that move

-- Whether each is a comprehension or a list literal.
abbrev pub all_open : Exs → Bool
all_open no_exs = true
all_open (more_exs l es) = is_laid_open l && all_open es

module _ (sup : Supply) where
  pub record WorkExs (g : Names Ty) (es : Exs) : Type 0 where
    pub context : Ins
    pub part : Ex
    pub whole : es ≡ fill_exs context part
    pub moves : Moves sup (names_at_exs context g) part

  -- The operands are refined, or one has a part that moves.
  pub data OnExs (g : Names Ty) (es : Exs) : Type 0 where
    exs_done : are_refined es ≡ true → OnExs g es
    exs_go : WorkExs g es → OnExs g es

  -- The same of operands that are lists.
  pub data OnLists (g : Names Ty) (es : Exs) : Type 0 where
    lists_done : are_refined_lists es ≡ true → OnLists g es
    lists_go : WorkExs g es → OnLists g es

  -- The same of one list.
  pub data OnList (g : Names Ty) (l : Ex) : Type 0 where
    list_done : is_refined_list l ≡ true → OnList g l
    list_goes : Work sup g l → OnList g l

  pub here : {g : Names Ty} {e : Ex} → Moves sup g e → Work sup g e
  here {e = e} m = record { context = hole; part = e; whole = refl; moves = m }

  -- Some rule fires.
  pub firing : (g : Names Ty) (e : Ex) → is_abstract g e ≡ true → is_scalar (type_of e g) ≡ true → Progress sup g e
  firing g e a s = goes_on (here (by_a_rule (fires-at sup g e a (operators-have g sup.one bool_dom e a (scalar-there (type_of e g) s)))))

  -- An operator of models on operands.
  pub scalar-node : (g : Names Ty) (op : Op) (es : Exs) → is_scalar_op op ≡ true → OnExs g es →
      Progress sup g (node_ex (is_truth_op op) op es)
  scalar-node g op es q (exs_done h) =
      is_done (and-both (iff (is_truth_op op) (is_truth_op op)) ((is_scalar_op op && are_refined es) || (is_list_op op
      && are_refined_lists es))
      (itself (is_truth_op op))
      (or-left (is_scalar_op op && are_refined es) (is_list_op op
      && are_refined_lists es) (and-both (is_scalar_op op) (are_refined es) q h)))
    where
      itself : (b : Bool) → iff b b ≡ true
      itself true = refl
      itself false = refl
  scalar-node g op es q (exs_go w) = goes_on (record {
    context = in_operand (is_truth_op op) op w.context;
    part = w.part;
    whole = ap (node_ex (is_truth_op op) op) w.whole;
    moves = w.moves;
  })

  pub list-node : (g : Names Ty) (op : Op) (es : Exs) → is_list_op op ≡ true → OnLists g es →
      Progress sup g (node_ex (is_truth_op op) op es)
  list-node g op es q (lists_done h) =
      is_done (and-both (iff (is_truth_op op) (is_truth_op op)) ((is_scalar_op op && are_refined es) || (is_list_op op
      && are_refined_lists es))
      (itself (is_truth_op op))
      (or-right (is_scalar_op op && are_refined es) (is_list_op op
      && are_refined_lists es) (and-both (is_list_op op) (are_refined_lists es) q h)))
    where
      itself : (b : Bool) → iff b b ≡ true
      itself true = refl
      itself false = refl
  list-node g op es q (lists_go w) = goes_on (record {
    context = in_operand (is_truth_op op) op w.context;
    part = w.part;
    whole = ap (node_ex (is_truth_op op) op) w.whole;
    moves = w.moves;
  })

  -- ---- operators

  -- The operands have been seen to, where they are scalars; and where they are lists of scalars.
  module _ (g : Names Ty) where
    abbrev pub Scalars : Exs → Type 0
    Scalars es = list_all is_scalar (types_of es g) ≡ true → OnExs g es

    abbrev pub Lists : Exs → Type 0
    Lists es = all_open es ≡ true → have_scalar_items es g ≡ true → OnLists g es

    pub unary-node : (o : Op1) (es : Exs) → list_all is_known (types_of es g) ≡ true →
        is_scalar (and_then (all_some (types_of es g)) (type_of_op (unary o))) ≡ true → Scalars es →
        Progress sup g (node_ex (is_truth_op (unary o)) (unary o) es)
    unary-node o no_exs k s f = no s
    unary-node o (more_exs a (more_exs b es)) k s f = no (more (type_of a g) (type_of b g) (types_of es g) s)
      where
        more : (p q : Option Ty) (os : List (Option Ty)) → is_scalar (and_then (all_some (p ∷ q ∷ os)) (type_of_op (unary o))) ≡ true →
            false ≡ true
        more None q os e = e
        more (Some t) None os e = e
        more (Some t) (Some u) os e = rest (all_some os) e
          where
            rest : (z : Option (List Ty)) →
                is_scalar (and_then (option_map (λ xs. t ∷ xs) (option_map (λ xs. u ∷ xs) z)) (type_of_op (unary o))) ≡ true → false ≡ true
            rest None e = e
            rest (Some ts) e = e
    unary-node Op1.Minus (more_exs a no_exs) k s f =
        scalar-node g (unary Op1.Minus) (more_exs a no_exs) refl (f (one-all (type_of a g)
        (one-scalar (λ t. fit t int_ty int_ty) (fits-none int_ty refl int_ty) (type_of a g) (and-left (is_known (type_of a g)) true k)
        (ap is_scalar (sym (alone-type (type_of a g) (type_of_op (unary Op1.Minus)))) ∙ s))))
    unary-node Op1.Not (more_exs a no_exs) k s f =
        scalar-node g (unary Op1.Not) (more_exs a no_exs) refl (f (one-all (type_of a g)
        (one-scalar (λ t. fit t bool_ty bool_ty) (fits-none bool_ty refl bool_ty) (type_of a g) (and-left (is_known (type_of a g)) true k)
        (ap is_scalar (sym (alone-type (type_of a g) (type_of_op (unary Op1.Not)))) ∙ s))))
    unary-node Op1.Bar (more_exs a no_exs) k s f =
        known-is (type_of a g) (and-left (is_known (type_of a g)) true k)
        (λ q. scalar-node g (unary Op1.Bar) (more_exs a no_exs) refl (f (one-all (type_of a g) q)))
        (λ q. firing g (ex1 false Op1.Bar a) q s)

    -- A sign that compares lists.
    lex-node : (o : Op2) (a b : Ex) → is_lex o ≡ true → is_list_op (binary o) ≡ true → is_truth_op (binary o) ≡ true →
        ((a b : Ex) → is_abstract g (ex2 true o a b) ≡ (is_lex o && (not (is_laid_open a) || not (is_laid_open b)))) →
        are_judged (more_exs a (more_exs b no_exs)) g ≡ true →
        is_scalar (and_then (type_of a g) (λ t. and_then (type_of b g) (λ u. and_then (join t u) lex_compared))) ≡ true →
        is_scalar (type_of (ex2 true o a b) g) ≡ true → Lists (more_exs a (more_exs b no_exs)) →
        Progress sup g (ex2 true o a b)
    lex-node o a b l q t e i w s f = go (is_laid_open a) (is_laid_open b) refl refl
      where
        items : is_laid_open a ≡ true → is_laid_open b ≡ true → have_scalar_items (more_exs a (more_exs b no_exs)) g ≡ true
        items j k =
            let r = lex-scalars g a b
            (open-type g a j (judged-items g a (and-left (is_judged a g) (is_judged b g && true) i))
            (typed-there (type_of a g) (λ t. and_then (type_of b g) (λ u. and_then (join t u) lex_compared)) w))
            (open-type g b k (judged-items g b (and-left (is_judged b g) true (and-right (is_judged a g) (is_judged b g && true) i)))
            (second-there (type_of a g) (type_of b g) (λ t u. and_then (join t u) lex_compared) w)) w in
            and-both (has_scalar_items a g) (has_scalar_items b g && true) r.0 (and-both (has_scalar_items b g) true r.1 refl)

        go : (u v : Bool) → is_laid_open a ≡ u → is_laid_open b ≡ v → Progress sup g (ex2 true o a b)
        go true true j k = subst (λ z. Progress sup g (node_ex z (binary o) (more_exs a (more_exs b no_exs)))) t
            (list-node g (binary o) (more_exs a (more_exs b no_exs)) q
            (f (and-both (is_laid_open a) (is_laid_open b && true) j (and-both (is_laid_open b) true k refl)) (items j k)))
        go true false j k = firing g (ex2 true o a b)
            (e a b ∙ and-both (is_lex o) (not (is_laid_open a) || not (is_laid_open b)) l
            (or-right (not (is_laid_open a)) (not (is_laid_open b)) (ap not k))) s
        go false v j k = firing g (ex2 true o a b)
            (e a b ∙ and-both (is_lex o) (not (is_laid_open a) || not (is_laid_open b)) l
            (or-left (not (is_laid_open a)) (not (is_laid_open b)) (ap not j))) s

    module _ (a b : Ex) where
      abbrev Both : Exs
      Both = more_exs a (more_exs b no_exs)

      known-a : list_all is_known (types_of Both g) ≡ true → is_known (type_of a g) ≡ true
      known-a k = and-left (is_known (type_of a g)) (is_known (type_of b g) && true) k

      known-b : list_all is_known (types_of Both g) ≡ true → is_known (type_of b g) ≡ true
      known-b k = and-left (is_known (type_of b g)) true (and-right (is_known (type_of a g)) (is_known (type_of b g) && true) k)

      -- The type of two operands that both have one.
      paired : (o : Op2) → is_scalar (and_then (all_some (types_of Both g)) (type_of_op (binary o))) ≡ true →
          is_scalar (and_then (type_of a g) (λ t. and_then (type_of b g) (λ u. type_of_binary o t u))) ≡ true
      paired o s = ap is_scalar (sym (pair-type (type_of a g) (type_of b g) (type_of_op (binary o)))) ∙ s

      numbers : (o : Op2) → is_scalar_op (binary o) ≡ true → (F : Ty → Option Ty) →
          ((k : Kind) (ts : Tys) → is_scalar (F (compound k ts)) ≡ false) → list_all is_known (types_of Both g) ≡ true →
          is_scalar (and_then (type_of a g) (λ t. and_then (type_of b g) (λ u. and_then (join t u) F))) ≡ true → Scalars Both →
          Progress sup g (node_ex (is_truth_op (binary o)) (binary o) Both)
      numbers o q F n k s f = scalar-node g (binary o) Both q (f (scalars F n (type_of a g) (type_of b g) k s))

      binary-two : (o : Op2) → are_judged Both g ≡ true → list_all is_known (types_of Both g) ≡ true →
          is_scalar (and_then (all_some (types_of Both g)) (type_of_op (binary o))) ≡ true → Scalars Both → Lists Both →
          Progress sup g (node_ex (is_truth_op (binary o)) (binary o) Both)
      binary-two Op2.Pow i k s f l = numbers Op2.Pow refl (λ t. fit t int_ty int_ty) (fits-none int_ty refl int_ty) k (paired Op2.Pow s) f
      binary-two Op2.Times i k s f l = numbers Op2.Times refl (λ t. fit t int_ty int_ty) (fits-none int_ty refl int_ty) k
          (paired Op2.Times s) f
      binary-two Op2.Div i k s f l = numbers Op2.Div refl (λ t. fit t int_ty int_ty) (fits-none int_ty refl int_ty) k (paired Op2.Div s) f
      binary-two Op2.Mod i k s f l = numbers Op2.Mod refl (λ t. fit t int_ty int_ty) (fits-none int_ty refl int_ty) k (paired Op2.Mod s) f
      binary-two Op2.Plus i k s f l = numbers Op2.Plus refl (λ t. fit t int_ty int_ty) (fits-none int_ty refl int_ty) k
          (paired Op2.Plus s) f
      binary-two Op2.Minus i k s f l = numbers Op2.Minus refl subtracted subtracted-none k (paired Op2.Minus s) f
      binary-two Op2.Lt i k s f l = numbers Op2.Lt refl compared compared-none k (paired Op2.Lt s) f
      binary-two Op2.Le i k s f l = numbers Op2.Le refl compared compared-none k (paired Op2.Le s) f
      binary-two Op2.Gt i k s f l = numbers Op2.Gt refl compared compared-none k (paired Op2.Gt s) f
      binary-two Op2.Ge i k s f l = numbers Op2.Ge refl compared compared-none k (paired Op2.Ge s) f
      binary-two Op2.And i k s f l = numbers Op2.And refl (λ t. fit t bool_ty bool_ty) (fits-none bool_ty refl bool_ty) k
          (paired Op2.And s) f
      binary-two Op2.Or i k s f l = numbers Op2.Or refl (λ t. fit t bool_ty bool_ty) (fits-none bool_ty refl bool_ty) k (paired Op2.Or s) f
      binary-two Op2.Implies i k s f l =
          numbers Op2.Implies refl (λ t. fit t bool_ty bool_ty) (fits-none bool_ty refl bool_ty) k (paired Op2.Implies s) f
      binary-two Op2.Iff i k s f l = numbers Op2.Iff refl (λ t. fit t bool_ty bool_ty) (fits-none bool_ty refl bool_ty) k
          (paired Op2.Iff s) f
      binary-two Op2.Eq i k s f l =
          two-alike (type_of a g) (type_of b g) (known-a k) (known-b k) (paired Op2.Eq s)
          (λ p q. scalar-node g (binary Op2.Eq) Both refl (f (two-all (type_of a g) (type_of b g) p q)))
          (λ p q. firing g (ex2 true Op2.Eq a b) (and-both (is_parted (type_of a g)) (is_parted (type_of b g)) p q) s)
      binary-two Op2.Ne i k s f l =
          two-alike (type_of a g) (type_of b g) (known-a k) (known-b k) (paired Op2.Ne s)
          (λ p q. scalar-node g (binary Op2.Ne) Both refl (f (two-all (type_of a g) (type_of b g) p q)))
          (λ p q. firing g (ex2 true Op2.Ne a b) (and-both (is_parted (type_of a g)) (is_parted (type_of b g)) p q) s)
      binary-two Op2.Subset i k s f l =
          let r = two-included (type_of a g) (type_of b g) (known-a k) (known-b k) (paired Op2.Subset s) in
          firing g (ex2 true Op2.Subset a b) (and-both (is_parted (type_of a g)) (is_parted (type_of b g)) r.0 r.1) s
      binary-two Op2.SubsetEq i k s f l = firing g (ex2 true Op2.SubsetEq a b) refl s
      binary-two Op2.Supset i k s f l = firing g (ex2 true Op2.Supset a b) refl s
      binary-two Op2.SupsetEq i k s f l = firing g (ex2 true Op2.SupsetEq a b) refl s
      binary-two Op2.Member i k s f l = firing g (ex2 true Op2.Member a b) refl s
      binary-two Op2.Union i k s f l = no (two-united (type_of a g) (type_of b g) (known-a k) (known-b k) (paired Op2.Union s))
      binary-two Op2.Intersect i k s f l = no (two-united (type_of a g) (type_of b g) (known-a k) (known-b k) (paired Op2.Intersect s))
      binary-two Op2.LexLt i k s f l = lex-node Op2.LexLt a b refl refl refl (λ a b. refl) i (paired Op2.LexLt s) s l
      binary-two Op2.LexLe i k s f l = lex-node Op2.LexLe a b refl refl refl (λ a b. refl) i (paired Op2.LexLe s) s l
      binary-two Op2.LexGt i k s f l = lex-node Op2.LexGt a b refl refl refl (λ a b. refl) i (paired Op2.LexGt s) s l
      binary-two Op2.LexGe i k s f l = lex-node Op2.LexGe a b refl refl refl (λ a b. refl) i (paired Op2.LexGe s) s l

    pub binary-node : (o : Op2) (es : Exs) → are_judged es g ≡ true → list_all is_known (types_of es g) ≡ true →
        is_scalar (and_then (all_some (types_of es g)) (type_of_op (binary o))) ≡ true → Scalars es → Lists es →
        Progress sup g (node_ex (is_truth_op (binary o)) (binary o) es)
    binary-node o no_exs i k s f l = no s
    binary-node o (more_exs a no_exs) i k s f l =
        no (never-one (λ t. type_of_op (binary o) (t ∷ [])) (λ t. refl) (type_of a g)
        (ap is_scalar (sym (alone-type (type_of a g) (type_of_op (binary o)))) ∙ s))
    binary-node o (more_exs a (more_exs b no_exs)) i k s f l = binary-two a b o i k s f l
    binary-node o (more_exs a (more_exs b (more_exs c es))) i k s f l =
        no (many-types (type_of a g) (type_of b g) (type_of c g) (types_of es g) (type_of_op (binary o)) (λ t u v ts. refl) s)
