use Rattle.std.proofs.Common.{sym}
use Rattle.error_codes.proofs.row.row_of_code.Goals as goal

pub returns-in-I1 : goal.returns-in-I1
returns-in-I1 c = sym c.in-I1.is

pub returns-in-I2 : goal.returns-in-I2
returns-in-I2 c = sym c.in-I2.is

pub returns-in-I3 : goal.returns-in-I3
returns-in-I3 c = sym c.in-I3.is

pub returns-in-I4 : goal.returns-in-I4
returns-in-I4 c = sym c.in-I4.is

pub returns-in-I5 : goal.returns-in-I5
returns-in-I5 c = sym c.in-I5.is

pub returns-in-I6 : goal.returns-in-I6
returns-in-I6 c = sym c.in-I6.is

pub returns-in-I7 : goal.returns-in-I7
returns-in-I7 c = sym c.in-I7.is

pub returns-in-I8 : goal.returns-in-I8
returns-in-I8 c = sym c.in-I8.is

pub returns-in-S1 : goal.returns-in-S1
returns-in-S1 c = sym c.in-S1.is

pub returns-in-S2 : goal.returns-in-S2
returns-in-S2 c = sym c.in-S2.is

pub returns-in-S3 : goal.returns-in-S3
returns-in-S3 c = sym c.in-S3.is

pub returns-in-S4 : goal.returns-in-S4
returns-in-S4 c = sym c.in-S4.is

pub returns-in-U1 : goal.returns-in-U1
returns-in-U1 c = sym c.in-U1.is

pub returns-in-B1 : goal.returns-in-B1
returns-in-B1 c = sym c.in-B1.is

pub returns-in-B2 : goal.returns-in-B2
returns-in-B2 c = sym c.in-B2.is

pub returns-in-B3 : goal.returns-in-B3
returns-in-B3 c = sym c.in-B3.is

pub returns-in-B4 : goal.returns-in-B4
returns-in-B4 c = sym c.in-B4.is

pub returns-in-B5 : goal.returns-in-B5
returns-in-B5 c = sym c.in-B5.is

pub returns-in-B6 : goal.returns-in-B6
returns-in-B6 c = sym c.in-B6.is

pub returns-in-B7 : goal.returns-in-B7
returns-in-B7 c = sym c.in-B7.is

pub returns-in-B8 : goal.returns-in-B8
returns-in-B8 c = sym c.in-B8.is

pub returns-in-B9 : goal.returns-in-B9
returns-in-B9 c = sym c.in-B9.is

pub returns-in-B10 : goal.returns-in-B10
returns-in-B10 c = sym c.in-B10.is

pub returns-in-B11 : goal.returns-in-B11
returns-in-B11 c = sym c.in-B11.is

pub returns-in-B12 : goal.returns-in-B12
returns-in-B12 c = sym c.in-B12.is

pub returns-in-B13 : goal.returns-in-B13
returns-in-B13 c = sym c.in-B13.is

pub returns-in-B14 : goal.returns-in-B14
returns-in-B14 c = sym c.in-B14.is

pub returns-in-O1 : goal.returns-in-O1
returns-in-O1 c = sym c.in-O1.is

pub returns-in-O2 : goal.returns-in-O2
returns-in-O2 c = sym c.in-O2.is

pub returns-in-O3 : goal.returns-in-O3
returns-in-O3 c = sym c.in-O3.is

pub returns-in-O4 : goal.returns-in-O4
returns-in-O4 c = sym c.in-O4.is

pub returns-in-O5 : goal.returns-in-O5
returns-in-O5 c = sym c.in-O5.is

pub returns-in-O6 : goal.returns-in-O6
returns-in-O6 c = sym c.in-O6.is

pub returns-in-O7 : goal.returns-in-O7
returns-in-O7 c = sym c.in-O7.is

pub returns-in-O8 : goal.returns-in-O8
returns-in-O8 c = sym c.in-O8.is

pub returns-in-O9 : goal.returns-in-O9
returns-in-O9 c = sym c.in-O9.is

pub returns-in-W1 : goal.returns-in-W1
returns-in-W1 c = sym c.in-W1.is

pub returns-in-W2 : goal.returns-in-W2
returns-in-W2 c = sym c.in-W2.is

pub returns-in-W3 : goal.returns-in-W3
returns-in-W3 c = sym c.in-W3.is

pub returns-in-W4 : goal.returns-in-W4
returns-in-W4 c = sym c.in-W4.is

pub returns-in-W5 : goal.returns-in-W5
returns-in-W5 c = sym c.in-W5.is

pub returns-in-W6 : goal.returns-in-W6
returns-in-W6 c = sym c.in-W6.is

pub returns-in-E1 : goal.returns-in-E1
returns-in-E1 c = sym c.in-E1.is

pub returns-in-E2 : goal.returns-in-E2
returns-in-E2 c = sym c.in-E2.is

pub returns-in-E3 : goal.returns-in-E3
returns-in-E3 c = sym c.in-E3.is

pub returns-in-E4 : goal.returns-in-E4
returns-in-E4 c = sym c.in-E4.is

pub returns-in-E5 : goal.returns-in-E5
returns-in-E5 c = sym c.in-E5.is

pub returns-in-L1 : goal.returns-in-L1
returns-in-L1 c = sym c.in-L1.is

pub returns-in-L2 : goal.returns-in-L2
returns-in-L2 c = sym c.in-L2.is

pub returns-in-L3 : goal.returns-in-L3
returns-in-L3 c = sym c.in-L3.is

pub returns-in-L4 : goal.returns-in-L4
returns-in-L4 c = sym c.in-L4.is

pub returns-in-L5 : goal.returns-in-L5
returns-in-L5 c = sym c.in-L5.is

pub returns-in-L6 : goal.returns-in-L6
returns-in-L6 c = sym c.in-L6.is

pub returns-in-L7 : goal.returns-in-L7
returns-in-L7 c = sym c.in-L7.is

pub returns-in-L8 : goal.returns-in-L8
returns-in-L8 c = sym c.in-L8.is
