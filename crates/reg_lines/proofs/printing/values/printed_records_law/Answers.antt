use Rattle.reg_lines.proofs.CompactRecords.{batch-no_float, batch_json-is, record-no_float, record_json-is}
use Rattle.reg_lines.proofs.printing.values.printed_records_law.Goals as goal

pub returns-clause-batches : goal.returns-clause-batches
returns-clause-batches c = batch_json-is

pub returns-clause-records : goal.returns-clause-records
returns-clause-records c = record_json-is

pub returns-clause-no_float_in_batches : goal.returns-clause-no_float_in_batches
returns-clause-no_float_in_batches c = batch-no_float

pub returns-clause-no_float_in_records : goal.returns-clause-no_float_in_records
returns-clause-no_float_in_records c = record-no_float
