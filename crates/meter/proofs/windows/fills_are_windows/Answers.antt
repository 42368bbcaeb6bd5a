use Rattle.meter.proofs.Fill.{fill_is_windows, fill_later, fill_charge}
use Rattle.meter.proofs.Held.{windows_hold}
use Rattle.meter.proofs.windows.fills_are_windows.Goals as goal

pub returns : goal.returns
returns c = record { windows = fill_is_windows; later = fill_later; charge = fill_charge; hold = windows_hold }
