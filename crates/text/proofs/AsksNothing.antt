-- Demand 1: no public entry of this crate asks anything of its caller. `tests/entries` compares the list with the sources.
-- Assumes nothing.
use mathlib.Core.Path.{refl}
use Rattle.laws.specs.Asking.{AsksNothing}
use Rattle.text.specs.contracts as entry

pub text_add : AsksNothing entry.Text.add.signature (λ M 𝓤. entry.Text.add.spec)
text_add M 𝓤 𝓛 mem run κs a = (tt, refl)

pub text_add_byte : AsksNothing entry.Text.add_byte.signature (λ M 𝓤. entry.Text.add_byte.spec)
text_add_byte M 𝓤 𝓛 mem run κs a = (tt, refl)

pub text_add_decimal : AsksNothing entry.Text.add_decimal.signature (λ M 𝓤. entry.Text.add_decimal.spec)
text_add_decimal M 𝓤 𝓛 mem run κs a = (tt, refl)

pub text_add_signed : AsksNothing entry.Text.add_signed.signature (λ M 𝓤. entry.Text.add_signed.spec)
text_add_signed M 𝓤 𝓛 mem run κs a = (tt, refl)

pub text_add_hex : AsksNothing entry.Text.add_hex.signature (λ M 𝓤. entry.Text.add_hex.spec)
text_add_hex M 𝓤 𝓛 mem run κs a = (tt, refl)

pub printer_new : AsksNothing entry.Printer.new.signature (λ M 𝓤. entry.Printer.new.spec)
printer_new M 𝓤 𝓛 mem run κs a = (tt, refl)

pub printer_make_room : AsksNothing entry.Printer.make_room.signature (λ M 𝓤. entry.Printer.make_room.spec)
printer_make_room M 𝓤 𝓛 mem run κs a = (tt, refl)

pub printer_print : AsksNothing entry.Printer.print.signature (λ M 𝓤. entry.Printer.print.spec)
printer_print M 𝓤 𝓛 mem run κs a = (tt, refl)

pub printer_add : AsksNothing entry.Printer.add.signature (λ M 𝓤. entry.Printer.add.spec)
printer_add M 𝓤 𝓛 mem run κs a = (tt, refl)

pub printer_add_byte : AsksNothing entry.Printer.add_byte.signature (λ M 𝓤. entry.Printer.add_byte.spec)
printer_add_byte M 𝓤 𝓛 mem run κs a = (tt, refl)

pub printer_add_decimal : AsksNothing entry.Printer.add_decimal.signature (λ M 𝓤. entry.Printer.add_decimal.spec)
printer_add_decimal M 𝓤 𝓛 mem run κs a = (tt, refl)

pub printer_add_signed : AsksNothing entry.Printer.add_signed.signature (λ M 𝓤. entry.Printer.add_signed.spec)
printer_add_signed M 𝓤 𝓛 mem run κs a = (tt, refl)

pub printer_add_hex : AsksNothing entry.Printer.add_hex.signature (λ M 𝓤. entry.Printer.add_hex.spec)
printer_add_hex M 𝓤 𝓛 mem run κs a = (tt, refl)

pub with_room : AsksNothing entry.with_room.signature (λ M 𝓤. entry.with_room.spec)
with_room M 𝓤 𝓛 mem run κs a = (tt, refl)

pub print : AsksNothing entry.print.signature (λ M 𝓤. entry.print.spec)
print M 𝓤 𝓛 mem run κs a = (tt, refl)

pub printer_write : AsksNothing entry.PrinterWrite.write.signature (λ M 𝓤. entry.PrinterWrite.write.spec)
printer_write M 𝓤 𝓛 mem run κs a = (tt, refl)

pub printer_flush : AsksNothing entry.PrinterWrite.flush.signature (λ M 𝓤. entry.PrinterWrite.flush.spec)
printer_flush M 𝓤 𝓛 mem run κs a = (tt, refl)
