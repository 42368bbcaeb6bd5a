-- File headers and their bytes: what is read, written, is the front of the file, and what is written is read again.
use Rattle.std.proofs.Common.{◌≡◌, ℕ, ◌+◌, ◌≤◌, List, ◌++◌, length, drop, Some, None, Ok, Option, refl, ap, ◌∙◌, append_assoc, arith}
use Rattle.std.proofs.lemmas.List.{length-append}
use Rattle.std.proofs.lemmas.Bool.Decides.{nat_tests}
use Rattle.capture.specs.declared.layout.Order.{Order}
use Rattle.capture.specs.declared.layout.Order.TheVariants.{Little, Big}
use Rattle.capture.specs.declared.layout.FileHeader.{FileHeader}
use Rattle.std.specs.Int.{w16, w32}
use Rattle.capture.specs.Numbers.{word_bytes, half_bytes, word_at, half_at, Bytes}
use Rattle.capture.specs.Headers.{magic, major_version, minor_version, ethernet, file_head_size, header_bytes, Fit, order_of, header_at, header_in, header_of, HeaderFronts}
use Rattle.capture.proofs.Words.{words, halves, number_off, word_small, number_stays}

abbrev MagicIn : List ℕ → Option Order → Type 0
MagicIn bs (Some o) = word_at o bs 0 ≡ magic
MagicIn bs None = Unit {0}

order_magic : (bs : List ℕ) → MagicIn bs (order_of bs)
order_magic bs = grind (arith, nat_tests)

module _ (bs : List ℕ) (small : Bytes bs) (long : file_head_size ≤ length bs) where
  -- the seven numbers come off the front
  head_fronts : (o : Order) → word_at o bs 0 ≡ magic → half_at o bs 4 ≡ major_version → half_at o bs 6 ≡ minor_version → word_at o bs 20 ≡ ethernet →
      HeaderFronts bs (Ok (header_at o bs))
  head_fronts o m a b l =
      let h4 : 4 ≤ length bs = omega arith in
      let h6 : 6 ≤ length bs = omega arith in
      let h8 : 8 ≤ length bs = omega arith in
      let h12 : 12 ≤ length bs = omega arith in
      let h16 : 16 ≤ length bs = omega arith in
      let h20 : 20 ≤ length bs = omega arith in
      let off0 = number_off words o bs 0 small h4 ∙ ap (λ n. word_bytes o n ++ drop 4 bs) m in
      let off4 = number_off halves o bs 4 small h6 ∙ ap (λ n. half_bytes o n ++ drop 6 bs) a in
      let off6 = number_off halves o bs 6 small h8 ∙ ap (λ n. half_bytes o n ++ drop 8 bs) b in
      let off20 = number_off words o bs 20 small long ∙ ap (λ n. word_bytes o n ++ drop 24 bs) l in
      let all =
      off0
      ∙ ap (λ l. word_bytes o magic ++ l) (off4
      ∙ ap (λ l. half_bytes o major_version ++ l) (off6
      ∙ ap (λ l. half_bytes o minor_version ++ l) (number_off words o bs 8 small h12
      ∙ ap (λ l. word_bytes o (word_at o bs 8) ++ l) (number_off words o bs 12 small h16
      ∙ ap (λ l. word_bytes o (word_at o bs 12) ++ l) (number_off words o bs 16 small h20
      ∙ ap (λ l. word_bytes o (word_at o bs 16) ++ l) off20))))) in (
        record { zone = word_small o bs 8 small; accuracy = word_small o bs 12 small; snap = word_small o bs 16 small },
        all ∙ simp append_assoc,
      )

  in_fronts : (r : Option Order) → MagicIn bs r → HeaderFronts bs (header_in r bs)
  in_fronts None m = tt
  in_fronts (Some o) m = grind (arith, nat_tests, head_fronts)

pub header_fronts : (bs : List ℕ) → Bytes bs → HeaderFronts bs (header_of bs)
header_fronts bs small = grind (arith, nat_tests, in_fronts, order_magic)

-- the numbers of a header that is written
record Written (h : FileHeader) (bs rest : List ℕ) : Type 0 where
  pub order : order_of bs ≡ Some h.order
  pub major : half_at h.order bs 4 ≡ major_version
  pub minor : half_at h.order bs 6 ≡ minor_version
  pub zone : word_at h.order bs 8 ≡ h.zone
  pub accuracy : word_at h.order bs 12 ≡ h.accuracy
  pub snap : word_at h.order bs 16 ≡ h.snap_length
  pub link : word_at h.order bs 20 ≡ ethernet
  pub long : length bs ≡ file_head_size + length rest

abbrev header_with : Order → ℕ → ℕ → ℕ → FileHeader
header_with o z a s = record { order = o; zone = z; accuracy = a; snap_length = s }

words_written : (o : Order) (z a s : ℕ) (rest : List ℕ) → Fit (header_with o z a s) → Written (header_with o z a s) (header_bytes (header_with o z a s) ++ rest) rest
words_written Little z a s rest f =
    record {
      order = refl;
      major = refl;
      minor = refl;
      zone = words.read Little z f.zone;
      accuracy = words.read Little a f.accuracy;
      snap = words.read Little s f.snap;
      link = refl;
      long = omega arith;
    }
words_written Big z a s rest f =
    record {
      order = refl;
      major = refl;
      minor = refl;
      zone = words.read Big z f.zone;
      accuracy = words.read Big a f.accuracy;
      snap = words.read Big s f.snap;
      link = refl;
      long = omega arith;
    }

pub header_long : (h : FileHeader) (rest : List ℕ) → Fit h → length (header_bytes h ++ rest) ≡ file_head_size + length rest
header_long h rest f = (words_written h.order h.zone h.accuracy h.snap_length rest f).long

same_header : (o : Order) {z z' a a' s s' : ℕ} → z ≡ z' → a ≡ a' → s ≡ s' → header_with o z a s ≡ header_with o z' a' s'
same_header o p q r = cc

-- a header that is written is read again
pub header_again : (h : FileHeader) (rest : List ℕ) → Fit h → header_of (header_bytes h ++ rest) ≡ Ok h
header_again h rest f =
    let bs = header_bytes h ++ rest in
    let o = h.order in
    let w = words_written o h.zone h.accuracy h.snap_length rest f in
    grind (arith, nat_tests, w, same_header)

-- what follows a header changes nothing of it
module _ (bs more : List ℕ) (long : file_head_size ≤ length bs) where
  order_stays : order_of (bs ++ more) ≡ order_of bs
  order_stays =
      let h4 : 4 ≤ length bs = omega arith in
      let a = number_stays w32 Little bs more 0 h4 in
      let b = number_stays w32 Big bs more 0 h4 in cc

  in_stays : (r : Option Order) → header_in r (bs ++ more) ≡ header_in r bs
  in_stays None = refl
  in_stays (Some o) =
      let h4 : 6 ≤ length bs = omega arith in
      let h6 : 8 ≤ length bs = omega arith in
      let h8 : 12 ≤ length bs = omega arith in
      let h12 : 16 ≤ length bs = omega arith in
      let h16 : 20 ≤ length bs = omega arith in
      let w4 = number_stays w16 o bs more 4 h4 in
      let w6 = number_stays w16 o bs more 6 h6 in
      let w20 = number_stays w32 o bs more 20 long in
      let same = same_header o (number_stays w32 o bs more 8 h8) (number_stays w32 o bs more 12 h12) (number_stays w32 o bs more 16 h16) in
      cc

  pub header_stays : header_of (bs ++ more) ≡ header_of bs
  header_stays =
      let longer : file_head_size ≤ length (bs ++ more) = omega (arith, length-append bs more) in
      let a = in_stays (order_of (bs ++ more)) in let b = order_stays in grind (arith, nat_tests, a, b, longer)
