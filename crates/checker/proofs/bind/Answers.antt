-- What is asked and given is what filling asks and gives.
use Rattle.checker.proofs.bind.Goals as goal

pub fill_bindings-requires : goal.fill_bindings-requires
fill_bindings-requires c =
    let a = c.requires in
    record { fine = record { standing = a.standing; lent = a.lent }; told = a.told; stamped = a.stamped }
