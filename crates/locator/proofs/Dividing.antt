-- Dividing in place, from the top coefficient down.
--   Divided p i E n Q f q s, divided-..   the loop of `divide`: f has the coefficients of the quotient from place s on, and in q, from
--                                         there on, stands what remains
use mathlib.Core.Path.{◌≡◌, sym, ap, ap₂, subst, ◌∙◌}
use mathlib.Core.List.{List, ◌∷◌}
use Prim.Native.Nat.{ℕ, suc, ◌+◌, ◌-◌, ◌≤◌, ◌<◌}
use native.Mathlib.Decide.{ℕ_discrete}
use native.Mathlib.Omega.{arith}
use borrow.Rule.Slice.PartMut.{put_mid, same_len_mid, take_put}
use lib.ListN.{length, get_or, take, drop, set, replicate, length-append, length-drop, length-replicate, length-set}
use lib.Seq.{ext_get_or, get_or-set_same, get_or-set_other, get_or-take, take-take, take-append-le, drop_at, length-take-le}
use Rattle.lists.specs.Tabulate.{pad}
use Rattle.lists.proofs.All.{all_append, all_take, all_drop}
use Rattle.lists.proofs.InPlace.{drop-back, length-zip_with}
use Rattle.lists.proofs.Padded.{get_or-zeros}
use Rattle.polynomial.specs.Polynomial.{Residues}
use Rattle.locator.specs.Quotient.{less_times, leading, long_division}
use Rattle.locator.proofs.Products.{division-size}

module _ (p i : ℕ) (E : List ℕ) (n : ℕ) (Q : List ℕ) where
  abbrev b : ℕ
  b = length E - 1

  -- From place s on the quotient is written, and what remains stands from there.
  pub record Divided (f q : List ℕ) (s : ℕ) : Type 0 where
    pub within : s ≤ n
    pub room : length f ≡ 4
    pub kept : length q ≡ length Q
    pub residues : Residues p q
    pub before : take s q ≡ take s Q
    pub written : (j : ℕ) → s ≤ j → get_or f j 0 ≡ get_or (long_division p i E (n - s) (drop s Q)).0 (j - s) 0
    pub remains : take b (drop s q) ≡ (long_division p i E (n - s) (drop s Q)).1

  module _ (nonempty : 0 < length E) (sizes : length Q + 1 ≡ n + length E) (few : n ≤ 4) where
    -- One coefficient more, at the place before s.
    module _ (f q : List ℕ) (s : ℕ) (d : Divided f q s) (more : 0 < s) where
      abbrev lent : List ℕ
      lent = take (s - 1 + length E - (s - 1)) (drop (s - 1) q)

      abbrev c : ℕ
      c = get_or Q (s - 1) 0

      inside : s - 1 + length E ≤ length q
      inside = omega (arith, d.kept, d.within)

      pub divided-lent : (length lent ≡ length E) × Residues p lent
      divided-lent =
          let k : ℕ = s - 1 + length E - (s - 1) in
          let all : k ≡ length E = omega arith in (
            length-take-le k (drop (s - 1) q) (omega (arith, length-drop (s - 1) q, inside)) ∙ all,
            all_take (λ c. c < p) k (drop (s - 1) q) (all_drop (λ c. c < p) (s - 1) q d.residues),
          )

      -- The number at that place, and what remains behind it.
      lent_is : lent ≡ c ∷ (long_division p i E (n - s) (drop s Q)).1
      lent_is =
          let k : s - 1 + length E - (s - 1) ≡ suc b = omega arith in
          let same : get_or q (s - 1) 0 ≡ c =
          sym (get_or-take s q (s - 1) 0 (omega arith)) ∙ ap (λ l. get_or l (s - 1) 0) d.before ∙ get_or-take s Q (s - 1) 0 (omega arith) in
          ap₂ take k (drop-back q s 0 more (omega (arith, inside, d.kept, d.within))) ∙ ap₂ ◌∷◌ same d.remains

      next : long_division p i E (n - (s - 1)) (drop (s - 1) Q) ≡ long_division p i E (suc (n - s)) (c ∷ drop s Q)
      next =
          let k : n - (s - 1) ≡ suc (n - s) = omega (arith, d.within) in
          ap₂ (long_division p i E) k (drop-back Q s 0 more (omega (arith, d.within)))

      pub divided-next : (h : ℕ) → h ≡ leading p i E lent → (part : List ℕ) → part ≡ less_times p lent h E → Residues p part
          → Divided (set f (s - 1) h) (put_mid (s - 1) (s - 1 + length E - (s - 1)) q part) (s - 1)
      divided-next h top part less fine =
          let k : ℕ = s - 1 + length E - (s - 1) in
          let h-is : h ≡ leading p i E (c ∷ (long_division p i E (n - s) (drop s Q)).1) = top ∙ ap (leading p i E) lent_is in
          let long : length part ≡ length lent = ap length less ∙ length-zip_with _ E lent (sym divided-lent.0) in
          let front_long : length (take (s - 1) q) ≡ s - 1 = length-take-le (s - 1) q (omega (arith, inside)) in
          record {
            within = omega (arith, d.within);
            room = length-set f (s - 1) h ∙ d.room;
            kept = same_len_mid (s - 1) k q part long ∙ d.kept;
            residues =
                all_append (λ c. c < p) (take (s - 1) q) _ (all_take (λ c. c < p) (s - 1) q d.residues)
                (all_append (λ c. c < p) part _ fine
                (all_drop (λ c. c < p) k (drop (s - 1) q) (all_drop (λ c. c < p) (s - 1) q d.residues)));
            before =
                take_put (s - 1) k q part (omega (arith, inside))
                ∙ sym (take-take (s - 1) s q (omega arith))
                ∙ ap (take (s - 1)) d.before
                ∙ take-take (s - 1) s Q (omega arith);
            written = λ j l.
                elim (ℕ_discrete j (s - 1)) [
                  | yes e ↦
                      let zero_is : j - (s - 1) ≡ 0 = omega arith in
                      ap (λ z. get_or (set f (s - 1) h) z 0) e
                      ∙ get_or-set_same f (s - 1) h 0 (omega (arith, d.room, d.within))
                      ∙ h-is
                      ∙ ap₂ (λ (o : List ℕ × List ℕ) (k : ℕ). get_or o.0 k 0) (sym next) (sym zero_is)
                  | no e ↦
                      let one : j - (s - 1) ≡ suc (j - s) = omega arith in
                      get_or-set_other f (s - 1) j h 0 e
                      ∙ d.written j (omega arith)
                      ∙ ap₂ (λ (o : List ℕ × List ℕ) (k : ℕ). get_or o.0 k 0) (sym next) (sym one)
                ];
            remains =
                ap (take b) (drop_at (take (s - 1) q) _ (s - 1) front_long)
                ∙ take-append-le b part _ (omega (arith, long, divided-lent.0))
                ∙ ap (take b) (less ∙ ap₂ (λ z w. less_times p z w E) lent_is h-is)
                ∙ ap (λ (o : List ℕ × List ℕ). o.1) (sym next);
          }

    pub divided-end : (f q : List ℕ) (s : ℕ) → Divided f q s → s ≡ 0
        → (f ≡ pad 4 (long_division p i E n Q).0) × (take b q ≡ (long_division p i E n Q).1) × Residues p q
    divided-end f q s d end =
        let at : Divided f q 0 = subst (Divided f q) end d in
        let whole : n - 0 ≡ n = omega arith in
        let F : List ℕ = (long_division p i E n Q).0 in
        let size : length F ≡ n = division-size p i E nonempty n Q (omega arith) in
        let padded : length (pad 4 F) ≡ 4 =
        length-append F (replicate (4 - length F) 0) ∙ omega (arith, length-replicate {A = ℕ} (4 - length F) 0, size) in (
          ext_get_or 0 f (pad 4 F) (d.room ∙ sym padded)
              (λ j l.
              let here : j - 0 ≡ j = omega arith in
              at.written j (omega arith)
              ∙ ap₂ (λ m k. get_or (long_division p i E m Q).0 k 0) whole here
              ∙ sym (get_or-zeros F (4 - length F) j)),
          at.remains ∙ ap (λ m. (long_division p i E m Q).1) whole,
          d.residues,
        )
