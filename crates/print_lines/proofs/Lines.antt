-- The lines of one record more, which the numbers after those of the records before it begin with.
use Rattle.std.proofs.Common.{ℕ, zero, suc, ◌+◌, ◌*◌, add-zero, add-one, arith, ◌≡◌, ap, sym, ◌∙◌, List, ◌++◌, append-nil, append_assoc, get_or, drop, get_or-drop}
use Rattle.spec_text.specs.Bytes.{Bytes}
use Rattle.print_lines.specs.LinesModel.{record_in, record_line, record_lines}

-- the record at an index is the one that the numbers from there on begin with
record_from : (ns : List ℕ) (at : ℕ) → record_in (drop at ns) 0 ≡ record_in ns at
record_from ns at =
    let first : get_or (drop at ns) 0 0 ≡ get_or ns at 0 = get_or-drop at ns 0 0 ∙ ap (λ i. get_or ns i 0) (add-zero at) in
    rw (
      first,
      get_or-drop at ns 1 0,
      get_or-drop at ns 2 0,
      get_or-drop at ns 3 0,
      get_or-drop at ns 4 0,
      get_or-drop at ns 5 0,
      get_or-drop at ns 6 0,
    )

module _ (text : Bytes) (ns : List ℕ) where
  lines_next : (j n : ℕ) → record_lines text ns j (suc n) ≡ record_lines text ns j n ++ record_line text (record_in ns (7 * (j + n)))
  lines_next j zero = rw (add-zero j) (append-nil (record_line text (record_in ns (7 * j))))
  lines_next j (suc n) =
      let e : j + suc n ≡ j + 1 + n = omega arith in
      rw (e, lines_next (j + 1) n) (sym (append_assoc (record_line text (record_in ns (7 * j))) (record_lines text ns (j + 1) n) (record_line text (record_in ns (7 * (j + 1 + n))))))

  pub lines_more : (n : ℕ) → record_lines text ns 0 (n + 1) ≡ record_lines text ns 0 n ++ record_line text (record_in (drop (7 * n) ns) 0)
  lines_more n =
      let e : 0 + n ≡ n = omega arith in
      let r : record_in ns (7 * (0 + n)) ≡ record_in (drop (7 * n) ns) 0 = ap (λ i. record_in ns (7 * i)) e ∙ sym (record_from ns (7 * n)) in
      rw (add-one n) (lines_next 0 n ∙ ap (λ r. record_lines text ns 0 n ++ record_line text r) r)
