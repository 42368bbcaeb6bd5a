use Rattle.policy_text.proofs.Whole.{is_canonical, is_written, is_first}
use Rattle.policy_text.proofs.reader.read_policy.Goals as goal

pub returns : goal.returns
returns c =
    let t = c.args.text.now in
    let r = c.read_lines.result in
    let a = c.read_lines.ensures in
    record {
      value = a;
      canonical = is_canonical t r a;
      written = λ ys e ok. is_written t r ys a e ok;
      first = is_first t r a;
    }
