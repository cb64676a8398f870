-- Rule 2 of document 03 over cells: how passing on over one mailbox, over all of them, and until nothing is added changes the rows, and that
-- at the end they have exactly what is passed on. Assumes nothing.
use mathlib.Core.Path.{◌≡◌, refl, sym, ◌∙◌, subst}
use mathlib.Core.List.{List}
use mathlib.Core.Logic.{⊎_elim}
use Prim.Native.Nat.{ℕ, zero, suc, ◌+◌, ◌*◌, ◌≤◌, ◌<◌}
use native.Mathlib.Nat.{zero-add}
use native.Mathlib.Omega.{arith}
use lib.ListN.{length, get_or-eq_default}
use lib.Seq.{ext_get_or}
use Rattle.rules.specs.Sizes.{domains_most, mailboxes}
use Rattle.rules.proofs.Places.{same?}
use Rattle.flow.specs.Masks.{In, row, Meeting, OneOf, United, Spread, Themselves, sums}
use Rattle.flow.specs.Cells.{granting, reading, Passes, own, on, Settled, total, Passed, Reach}
use Rattle.flow.proofs.Bits.{below?, in_none, in_one, one_in}
use Rattle.flow.proofs.Spreading.{spread_was, spread-stays, spread_new, spread-most, sums-most, sums_same}

-- only rows that there are have something
pub in_low : {c : ℕ} (rows : List ℕ) (a : ℕ) → length rows ≡ domains_most → In c (row rows a) → a < domains_most
in_low {c} rows a e i =
    ⊎_elim (λ l. l) (λ g. absurd (in_none (subst (In c) (get_or-eq_default rows 0 {n = a} (omega arith)) i))) (below? a domains_most)

-- the first row of those that are united is row 0
pub the_row : {which c : ℕ} {rows : List ℕ} (a : ℕ) → a < domains_most → In a which → In c (row rows a) → OneOf rows 0 domains_most which c
the_row {c = c} {rows = rows} a l w i =
    record { number = a; low = l; chosen = w; inside = subst (λ k. In c (row rows k)) (sym (zero-add a)) i }

module _ (cells : List ℕ) where
  -- ---- over one mailbox

  module _ (m g q senders receivers what : ℕ) (low : m < mailboxes) (before after : List ℕ) (long : length before ≡ domains_most)
      (gs : United cells ((256 + m) * 8) 8 granting g) (qs : United cells ((256 + m) * 8) 8 reading q)
      (from : Meeting before g domains_most senders) (to : Meeting before q domains_most receivers)
      (all : United before 0 domains_most senders what) (s : Spread receivers what domains_most before after) where
    -- what the receivers have taken in is passed on to them
    taken : ((d c : ℕ) → In c (row before d) → Passes cells d c) → (d c : ℕ) → In d receivers → In c what → Passes cells d c
    taken f d c w i =
        let o = all.told c i in
        let x = (from.told o.number o.chosen).1 in
        let y = (to.told d w).1 in
        on low (f _ _ x.left) (gs.told _ x.right) (f _ _ y.left) (qs.told _ y.right)
        (f _ _ (subst (λ k. In c (row before k)) (zero-add o.number) o.inside))

    -- where it was there before, nothing is left to pass on
    left : after ≡ before → Settled cells before m
    left e =
        record {
          settled = λ a b c x y i h j k n.
              let p = in_low before a long i in
              let r = in_low before b long j in
              let sent = from.every a p (record { domain = x; left = i; right = gs.every x h }) in
              let got = to.every b r (record { domain = y; left = j; right = qs.every y k }) in
              subst (λ l. In c (row l b)) e (spread_new b c s r got (all.every c (the_row a p sent n)));
        }

    pub pass_law : Passed cells m (m + 1) before after
    pass_law =
        record {
          long = s.long;
          more = sums-most before after (spread-most s) domains_most;
          same = same;
          grown = λ d c i. spread-stays d c s i;
          fair = λ f d c i. ⊎_elim (λ j. f d c j) (λ w. taken f d c w.1 w.2) (spread_was d c s i);
          settled = λ e n h k. subst (Settled cells after) (let z : m ≡ n = omega arith in z)
              (subst (λ l. Settled cells l m) (sym (same e)) (left (same e)));
        }
      where
        same : total after ≡ total before → after ≡ before
        same e =
            ext_get_or 0 after before s.long
            (λ i l. sums_same before after (spread-most s) domains_most e i (let h = s.long in omega arith))

  -- ---- over all mailboxes: none yet, one on, and after the last

  pub passed_none : (rows : List ℕ) → Passed cells 0 0 rows rows
  passed_none rows =
      record {
        long = refl;
        more = omega arith;
        same = λ e. refl;
        grown = λ d c i. i;
        fair = λ f. f;
        settled = λ e m g h. absurd (omega arith);
      }

  pub passed_more : {before now after : List ℕ} (m : ℕ) → Passed cells 0 m before now → Passed cells m (m + 1) now after
      → Passed cells 0 (m + 1) before after
  passed_more {before} {now} {after} m a b =
      record {
        long = b.long ∙ a.long;
        more = let g = a.more in let h = b.more in omega arith;
        same = λ e. b.same (then e) ∙ a.same (first e);
        grown = λ d c i. b.grown d c (a.grown d c i);
        fair = λ f. b.fair (a.fair f);
        settled = λ e n g h. ⊎_elim (λ z. b.settled (then e) n (omega arith) h)
            (λ z. subst (λ l. Settled cells l n) (sym (b.same (then e))) (a.settled (first e) n g (omega arith))) (same? n m);
      }
    where
      first : total after ≡ total before → total now ≡ total before
      first e = let g = a.more in let h = b.more in omega arith

      then : total after ≡ total before → total after ≡ total now
      then e = let g = a.more in let h = b.more in omega arith

  pub passed_end : {m : ℕ} {before after : List ℕ} → m ≤ mailboxes → mailboxes ≤ m → Passed cells 0 m before after
      → Passed cells 0 mailboxes before after
  passed_end {m} {before} {after} h g p = subst (λ k. Passed cells 0 k before after) (let z : m ≡ mailboxes = omega arith in z) p

  -- ---- until nothing is added

  -- the sum is n, and before the last time over all mailboxes it was b; where that added nothing, nothing is left to pass on
  pub record Passing (b n : ℕ) (rows : List ℕ) : Type 0 where
    pub long : length rows ≡ domains_most
    pub sum : n ≡ total rows
    pub more : b ≤ n
    pub least : 1 ≤ n
    pub own : (d : ℕ) → d < domains_most → In d (row rows d)
    pub fair : (d c : ℕ) → In c (row rows d) → Passes cells d c
    pub settled : n ≡ b → (m : ℕ) → m < mailboxes → Settled cells rows m

  -- one row is no more than the sum
  one_most : (rows : List ℕ) (n : ℕ) → row rows 0 ≤ sums rows (suc n)
  unfolding sums
  one_most rows zero = omega arith
  one_most rows (suc n) = let h = one_most rows n in omega arith

  pub passing_begun : {rows : List ℕ} {n : ℕ} → Themselves rows → n ≡ total rows → Passing 0 n rows
  passing_begun {rows} {n} t e =
      record {
        long = t.long;
        sum = e;
        more = omega arith;
        least = least;
        own = λ d l. subst (In d) (sym (t.itself d l)) (one_in d);
        fair = λ d c i.
            let l = in_low rows d t.long i in
            subst (Passes cells d) (sym (in_one c d (subst (In c) (t.itself d l) i))) (own l);
        settled = λ z. absurd (omega (arith, least));
      }
    where
      least : 1 ≤ n
      least = let h = one_most rows 15 in let g = t.itself 0 (omega arith) in omega arith

  pub passing_more : {b n m : ℕ} {before after : List ℕ} → Passing b n before → Passed cells 0 mailboxes before after → m ≡ total after
      → Passing n m after
  passing_more {b} {n} {m} {before} {after} p s e =
      record {
        long = s.long ∙ p.long;
        sum = e;
        more = let g = s.more in let h = p.sum in omega arith;
        least = let g = s.more in let h = p.sum in let k = p.least in omega arith;
        own = λ d l. s.grown d d (p.own d l);
        fair = s.fair p.fair;
        settled = λ z k h. s.settled (let g = p.sum in omega arith) k (omega arith) h;
      }

  pub passing_end : {b n : ℕ} {rows : List ℕ} → Passing b n rows → n ≤ b → Reach cells rows
  passing_end {b} {n} {rows} p h = record { long = p.long; told = p.fair; every = λ d c i. all i }
    where
      done : (m : ℕ) → m < mailboxes → Settled cells rows m
      done = p.settled (let g = p.more in omega arith)

      all : {d c : ℕ} → Passes cells d c → In c (row rows d)
      all (own l) = p.own _ l
      all (on {a} {b = e} {c} {m} {g} {q} l x y z w t) = (done m l).settled a e c g q (all x) y (all z) w (all t)
