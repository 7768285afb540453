mod Marks
mod Printed
mod Repeated
mod Replied
