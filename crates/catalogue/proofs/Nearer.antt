-- The nearest earlier row that depends on an author decides M7 of a message whose log keeps it.
-- Assumes nothing.
use Prim.Native.Nat.{ℕ, suc, ◌+◌, ◌-◌, ◌≤◌, ◌<◌, max}
use mathlib.Core.Path.{◌≡◌, refl, sym, ap, subst, ◌∙◌}
use mathlib.Core.Bool.{Bool}
use mathlib.Core.List.Memᴰ
use mathlib.Core.List.{List, [], ◌∷◌, ◌++◌, Memᴰ}
use mathlib.Core.Logic.{◌⊎◌, inl, inr, ⊎_elim, ◌≢◌}
use native.Mathlib.Omega.{arith}
use lib.ListN.{length, take, get_or}
use lib.Seq.{take-suc}
use Rattle.basics.proofs.Tests.{by_ltb}
use Rattle.store.specs.Table.{row_at, deps_in}
use Rattle.store.specs.declared.Row.{Row}
use Rattle.catalogue.specs.Steady.{InLog, SameOrBefore, Compared, KeepsFrom, BreaksFrom, KeepUpTo}
use Rattle.catalogue.specs.Nearest.{dep_by, Nearest, Latest, Orderly, MayJudge, Steps, stepped_back}
use Rattle.catalogue.proofs.Logs.{same_or_before_then, in_log_some, in_log_earlier}
use Rattle.catalogue.proofs.Logs.{dep_by_some, nearest_first, nearest_depends, nearest_earlier, in_log_split}

module _ (rows deps : List ℕ) (n : ℕ) (o : Orderly rows deps n) (x : ℕ) (low : x ≤ n) (kept : KeepUpTo rows deps x) where
  -- A row of the log that depends on the author of `e` is the nearest one, or one before it, whose dependency is then at or before the nearest's.
  toward : (e q p d : ℕ) → Nearest rows deps (row_at rows e).author x q → InLog rows p x → Memᴰ d (deps_in rows deps p)
      → (row_at rows d).author ≡ (row_at rows e).author
      → (1 ≤ q) × ((p ≤ q) × SameOrBefore rows deps d (dep_by rows (row_at rows e).author (deps_in rows deps q)))
  toward e q p d near g m f =
      let a = (row_at rows e).author in
      let i : InLog rows p q = nearest_first o.falling low o.some near p d g m f in
      let z : q ≤ x = nearest_earlier o.falling low near in
      let l : p ≤ q = in_log_earlier o.falling (omega arith) i in
      let s : 1 ≤ p = in_log_some i in
      let h : 1 ≤ q = omega arith in
      let b = dep_by_some rows a (deps_in rows deps q) (nearest_depends near h).1 in
      let y : (row_at rows d).author ≡ (row_at rows (dep_by rows a (deps_in rows deps q))).author = f ∙ sym b.1 in (
        h,
        (
          l,
          ⊎_elim (λ (w : p ≡ q). inl
              (o.single q d (dep_by rows a (deps_in rows deps q)) (omega arith) (subst (λ (r : ℕ). Memᴰ d (deps_in rows deps r)) w m) b.0 y))
              (λ (w : InLog rows p (row_at rows q).prev). kept q z h p d (dep_by rows a (deps_in rows deps q))
              (record { earlier = w; of_earlier = m; of_later = b.0; one_author = y })) (in_log_split i),
        ),
      )

  -- The message's only dependency.
  only : (e e' : ℕ) → Memᴰ e' (e ∷ []) → e' ≡ e
  only e e' (Memᴰ.head f) = f
  only e e' (Memᴰ.tail m) = elim m [ ]

  -- What is compared with the only dependency `e` is compared by its author.
  by_author : (e p d e' : ℕ) → Compared rows deps x (e ∷ []) p d e' → (row_at rows d).author ≡ (row_at rows e).author
  by_author e p d e' c = c.one_author ∙ ap (λ (r : ℕ). (row_at rows r).author) (only e e' c.of_later)

  -- Where the nearest row's dependency is at or before `e`, every one is.
  pub nearest_keeps : (e q : ℕ) → Nearest rows deps (row_at rows e).author x q
      → SameOrBefore rows deps (dep_by rows (row_at rows e).author (deps_in rows deps q)) e → KeepsFrom rows deps x (e ∷ [])
  nearest_keeps e q near s p d e' c =
      subst (SameOrBefore rows deps d) (sym (only e e' c.of_later))
      (same_or_before_then (toward e q p d near c.earlier c.of_earlier (by_author e p d e' c)).1.1 s)

  -- Where there is no such row, nothing is compared.
  pub none_keeps : (e : ℕ) → Nearest rows deps (row_at rows e).author x 0 → KeepsFrom rows deps x (e ∷ [])
  none_keeps e near p d e' c = absurd (omega (arith, (toward e 0 p d near c.earlier c.of_earlier (by_author e p d e' c)).0))

  -- Where the nearest row's dependency is not at or before `e`, the message breaks M7 against it, and against no later row.
  pub nearest_breaks : (e q : ℕ) → Nearest rows deps (row_at rows e).author x q → 1 ≤ q
      → (SameOrBefore rows deps (dep_by rows (row_at rows e).author (deps_in rows deps q)) e → ⊥) → Latest rows deps x (e ∷ []) q
  nearest_breaks e q near h s =
      let r = nearest_depends near h in
      let b = dep_by_some rows (row_at rows e).author (deps_in rows deps q) r.1 in
      record {
        kept = λ z. absurd (omega arith);
        broken = λ k.
            record {
              d = dep_by rows (row_at rows e).author (deps_in rows deps q);
              e = e;
              compared = record { earlier = r.0; of_earlier = b.0; of_later = Memᴰ.head refl; one_author = b.1 };
              apart = s;
            };
        latest = λ p k. (toward e q p k.d near k.compared.earlier k.compared.of_earlier (by_author e p k.d k.e k.compared)).1.0;
      }

-- A message without dependencies keeps M7.
pub latest_none : (rows deps : List ℕ) (x : ℕ) → Latest rows deps x [] 0
latest_none rows deps x =
    record {
      kept = λ z p d e c. absurd (Memᴰ.not-nil c.of_later);
      broken = λ h. absurd (omega arith);
      latest = λ p k. absurd (Memᴰ.not-nil k.compared.of_later);
    }

-- What is compared with one of some dependencies is compared with it among more.
pub compared_among : {rows deps : List ℕ} {x : ℕ} {ds es : List ℕ} {p d e : ℕ} → Memᴰ e es → Compared rows deps x ds p d e → Compared rows deps x es p d e
compared_among m c = record { earlier = c.earlier; of_earlier = c.of_earlier; of_later = m; one_author = c.one_author }

-- A break of some dependencies is one of more.
breaks_among : {rows deps : List ℕ} {x : ℕ} {ds es : List ℕ} {p : ℕ} → ((e : ℕ) → Memᴰ e ds → Memᴰ e es) → BreaksFrom rows deps x ds p
    → BreaksFrom rows deps x es p
breaks_among f b = record { d = b.d; e = b.e; compared = compared_among (f b.e b.compared.of_later) b.compared; apart = b.apart }

-- One dependency more: the later of the two rows.
pub latest_more : (rows deps : List ℕ) (x : ℕ) (ds : List ℕ) (q e r w : ℕ) → Latest rows deps x ds q → Latest rows deps x (e ∷ []) r
    → q ≤ w → r ≤ w → (w ≡ q) ⊎ (w ≡ r) → Latest rows deps x (ds ++ (e ∷ [])) w
latest_more rows deps x ds q e r w l m h k i =
    record {
      kept = λ z p d e' c.
          ⊎_elim (λ y. l.kept (omega arith) p d e' (compared_among y c)) (λ y. m.kept (omega arith) p d e' (compared_among y c))
          (Memᴰ.append_cases ds c.of_later);
      broken = λ some.
          ⊎_elim (λ (f : w ≡ q). subst (BreaksFrom rows deps x (ds ++ (e ∷ []))) (sym f)
          (breaks_among (λ y g. Memᴰ.append_left (e ∷ []) g) (l.broken (omega arith))))
          (λ (f : w ≡ r). subst (BreaksFrom rows deps x (ds ++ (e ∷ []))) (sym f) (breaks_among (λ y g. Memᴰ.append_right ds g) (m.broken (omega arith)))) i;
      latest = λ p b.
          ⊎_elim
          (λ y. let z : p ≤ q = l.latest p (record { d = b.d; e = b.e; compared = compared_among y b.compared; apart = b.apart }) in omega arith)
          (λ y. let z : p ≤ r = m.latest p (record { d = b.d; e = b.e; compared = compared_among y b.compared; apart = b.apart }) in omega arith)
          (Memᴰ.append_cases ds b.compared.of_later);
    }

-- Where a message keeps M7 there is no row that it breaks it against.
pub latest_kept : (rows deps : List ℕ) (x : ℕ) (ds : List ℕ) → KeepsFrom rows deps x ds → Latest rows deps x ds 0
latest_kept rows deps x ds k =
    record { kept = λ z. k; broken = λ h. absurd (omega arith); latest = λ p b. absurd (b.apart (k p b.d b.e b.compared)) }

module _ (rows deps starts : List ℕ) (x e : ℕ) (may : MayJudge rows deps starts x e) (this : Row) (is : this ≡ row_at rows e) (q : ℕ)
    (near : Nearest rows deps this.author x q) where
  -- The nearest row, by the author of `e`.
  its_nearest : Nearest rows deps (row_at rows e).author x q
  its_nearest = subst (λ (r : Row). Nearest rows deps r.author x q) is near

  -- The rows up to `x` are orderly and keep M7.
  orderly : Orderly rows deps x
  orderly = may.log.orderly

  -- No row of the log depends on the author.
  pub break_none : q ≡ 0 → Latest rows deps x (e ∷ []) 0
  break_none z =
      latest_kept rows deps x (e ∷ [])
      (none_keeps rows deps x orderly x (omega arith) may.keep e (subst (Nearest rows deps (row_at rows e).author x) z its_nearest))

  module _ (d : ℕ) (l : List ℕ) (of : l ≡ deps_in rows deps q) (by : d ≡ dep_by rows this.author l) where
    -- The nearest row's dependency.
    its_dependency : d ≡ dep_by rows (row_at rows e).author (deps_in rows deps q)
    its_dependency = by ∙ rw (of, is)

    -- It is a row.
    pub dependency_some : 1 ≤ q → 1 ≤ d
    dependency_some h =
        let b = dep_by_some rows (row_at rows e).author (deps_in rows deps q) (nearest_depends its_nearest h).1 in
        let i : q ≤ x = nearest_earlier orderly.falling (omega arith) its_nearest in
        let s = orderly.some q (dep_by rows (row_at rows e).author (deps_in rows deps q)) i b.0 in
        rw its_dependency s

    -- It is at or before `e`,
    pub break_kept : SameOrBefore rows deps d e → Latest rows deps x (e ∷ []) 0
    break_kept s =
        latest_kept rows deps x (e ∷ [])
        (nearest_keeps rows deps x orderly x (omega arith) may.keep e q its_nearest (subst (λ (y : ℕ). SameOrBefore rows deps y e) its_dependency s))

    -- or not.
    pub break_at : 1 ≤ q → (SameOrBefore rows deps d e → ⊥) → Latest rows deps x (e ∷ []) q
    break_at h s =
        nearest_breaks rows deps x orderly x (omega arith) may.keep e q its_nearest h
        (λ k. s (subst (λ (y : ℕ). SameOrBefore rows deps y e) (sym its_dependency) k))

-- One dependency more is judged.
pub latest_next : (rows deps : List ℕ) (x : ℕ) (ds : List ℕ) (k q e r w : ℕ) → k < length ds → e ≡ get_or ds k 0 → Latest rows deps x (take k ds) q
    → Latest rows deps x (e ∷ []) r → w ≡ max q r → Latest rows deps x (take (k + 1) ds) w
latest_next rows deps x ds k q e r w h z l m i =
    let s : k + 1 ≡ suc k = omega arith in
    subst (λ (l : List ℕ). Latest rows deps x l w)
    (ap (λ (y : ℕ). take k ds ++ (y ∷ [])) z ∙ sym (take-suc ds k 0 h) ∙ ap (λ (n : ℕ). take n ds) (sym s))
    (latest_more rows deps x (take k ds) q e r w l m (omega arith) (omega arith)
    (by_ltb (λ (b : Bool). (w ≡ q) ⊎ (w ≡ r)) q r (λ j. inr (omega arith)) (λ j. inl (omega arith))))

-- The lowest row that breaks M7.
pub steps_back : (rows deps : List ℕ) (n r q : ℕ) (this : Row) (l : List ℕ) → 1 ≤ r → r ≤ n → this ≡ row_at rows r → l ≡ deps_in rows deps r
    → Latest rows deps this.prev l q → q ≢ 0 → KeepUpTo rows deps (r - 1) → Steps rows deps n r q
steps_back rows deps n r q this l h b e f m z k =
    let x : Latest rows deps (row_at rows r).prev (deps_in rows deps r) q =
    subst (λ (d : List ℕ). Latest rows deps (row_at rows r).prev d q) f (subst (λ (w : Row). Latest rows deps w.prev l q) e m) in
    stepped_back
    (record { some = h; held = b; breaks = x.broken (omega (arith, z)); lowest = λ y i j. k y (omega arith) j; latest = x.latest })
